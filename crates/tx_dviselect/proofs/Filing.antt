-- The file of a page alone, put together of its parts.
use Rattle.std.proofs.Common.{◌≡◌, ℕ, ◌+◌, ◌-◌, ◌≤◌, ℤ, pos, negsuc, List, [], ◌∷◌, ◌++◌, length, length-append, get_or, take, refl, sym, ap, ◌∙◌, arith, append_assoc}
use Rattle.std.specs.Prelude.{replicate, ◌%◌}
use Rattle.std.specs.List.{flat_map}
use Rattle.std.proofs.lemmas.List.{append-nil, take_at}
use Rattle.std.proofs.lemmas.List.Sums.{sum_by-cons}
use Rattle.tx_dvi.specs.declared.font.FontDefinition.{FontDefinition}
use Rattle.tx_dvi.specs.Dvi as dvi
use Rattle.tx_dvi.specs.Dvi.{bop, eop, four_bytes, definition_bytes, page_size, place_of, pointer_of, pages_bytes, preamble, comment, post_post_bytes, filler, filled}
use Rattle.tx_dvi.specs.Page.{Page}
use Rattle.tx_dvi.proofs.Pages.{size-page_bytes}
use Rattle.tx_dviselect.specs.Uses.{borrowed}
use Rattle.tx_dviselect.specs.Alone.{alone, page_file, page_bytes, post_bytes}

-- the file of one page begins with its preamble, whose 15th byte is the length of its comment
pub record Begins (page : Page) : Type 0 where
  pub behind : List ℕ
  pub is : dvi.dvi (page ∷ []) ≡ preamble page ++ behind

regroup : (a b c d e : List ℕ) → (((a ++ b) ++ c) ++ d) ++ e ≡ a ++ (b ++ (c ++ (d ++ e)))
regroup a b c d e = simp append_assoc

pub begins : (page : Page) → Begins page
begins page =
    let start : ℕ = length (preamble page) in
    let body : List ℕ = pages_bytes start (page ∷ []) in
    let ended : List ℕ = dvi.post_bytes (pointer_of start (page ∷ []) 1) page.mag (page ∷ []) in
    let placed : List ℕ = post_post_bytes (pos (place_of start (page ∷ []) 1)) in
    let rest : List ℕ = replicate (4 + (4 - length (((preamble page ++ body) ++ ended) ++ placed) % 4) % 4) filler in
    record { behind = body ++ (ended ++ (placed ++ rest)); is = regroup (preamble page) body ended placed rest }

pub size-preamble : (page : Page) → length (preamble page) ≡ 15 + length (comment page.date)
unfolding four_bytes
size-preamble page = omega arith

pub comment-size : (page : Page) (behind : List ℕ) → get_or (preamble page ++ behind) 14 0 ≡ length (comment page.date)
unfolding four_bytes
comment-size page behind = refl

-- so it is found
pub preamble-front : (page : Page) (file : List ℕ) → file ≡ dvi.dvi (page ∷ []) → take (15 + get_or file 14 0) file ≡ preamble page
preamble-front page file is =
    let front = begins page in
    let whole : file ≡ preamble page ++ front.behind = is ∙ front.is in
    (λ i. take (15 + get_or (whole i) 14 0) (whole i))
    ∙ take_at (preamble page) front.behind (15 + get_or (preamble page ++ front.behind) 14 0) (size-preamble page ∙ ap (λ n. 15 + n) (sym (comment-size page front.behind)))

pub preamble-within : (page : Page) (file : List ℕ) → file ≡ dvi.dvi (page ∷ []) → 15 + get_or file 14 0 ≤ length file
preamble-within page file is =
    let front = begins page in
    let whole : file ≡ preamble page ++ front.behind = is ∙ front.is in
    let size : get_or file 14 0 ≡ length (comment page.date) = ap (λ bytes. get_or bytes 14 0) whole ∙ comment-size page front.behind in
    let long : length file ≡ length (preamble page) + length front.behind = ap length whole ∙ length-append (preamble page) front.behind in
    omega (arith, size, long, size-preamble page)

module _ (earlier : List FontDefinition) (page : Page) where
  abbrev first : List FontDefinition
  first = borrowed earlier page.body

  abbrev it : Page
  it = alone earlier page

  abbrev front : List ℕ
  front = preamble page

  pages-are : pages_bytes (length front) (it ∷ []) ≡ page_bytes page first
  pages-are =
      append-nil (dvi.page_bytes it (negsuc 0))
      ∙ ap (λ (l : List ℕ). l ++ eop ∷ []) (sym (append_assoc (bop ∷ flat_map four_bytes page.counts ++ four_bytes (negsuc 0)) (flat_map definition_bytes first) page.body))

  size-is : length page.counts ≡ 10 → place_of (length front) (it ∷ []) 1 ≡ length (front ++ page_bytes page first)
  size-is ten =
      let one = sum_by-cons page_size it [] in
      let bytes : length (page_bytes page first) ≡ page_size it = ap length (sym pages-are ∙ append-nil (dvi.page_bytes it (negsuc 0))) ∙ size-page_bytes it (negsuc 0) ten in
      let all = length-append front (page_bytes page first) in
      omega (arith, one, bytes, all)

  -- the parts of the file
  pub alone-file : {begun body ended placed file : List ℕ} {start place : ℤ} → length page.counts ≡ 10 → begun ≡ front → body ≡ begun ++ page_bytes page first
      → start ≡ pos (length begun) → place ≡ pos (length body) → ended ≡ body ++ post_bytes start page (first ++ page.fonts) → placed ≡ ended ++ post_post_bytes place → file ≡ filled placed
      → file ≡ page_file earlier page
  alone-file {begun} {body} {ended} {placed} {file} {start} {place} ten begun_is body_is start_is place_is ended_is placed_is file_is =
      let here : ℕ = length front in
      let none : here + 0 ≡ here = omega arith in
      let body_so : body ≡ front ++ page_bytes page first = body_is ∙ ap (λ l. l ++ page_bytes page first) begun_is in
      let start_so : start ≡ pos here = start_is ∙ ap (λ l. pos (length l)) begun_is in
      let place_so : place ≡ pos (place_of here (it ∷ []) 1) = place_is ∙ ap pos (ap length body_so ∙ sym (size-is ten)) in
      file_is
      ∙ ap filled (placed_is
      ∙ (λ i. (ended_is ∙ (λ j. body_so j ++ post_bytes (start_so j) page (first ++ page.fonts))) i ++ post_post_bytes (place_so i))
      ∙ (λ i. ((front ++ sym pages-are i) ++ post_bytes (pos (sym none i)) page (sym (append-nil (first ++ page.fonts)) i)) ++ post_post_bytes (pos (place_of here (it ∷ []) 1))))
