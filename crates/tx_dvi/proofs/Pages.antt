-- The pages one after another: what is there, and what is still to come.
use Rattle.std.proofs.Common.{zero, zero-add, add-zero, ◌-◌, ◌%◌, length-append, ◌≡◌, ◌≤◌, ◌<◌, ℕ, suc, ◌+◌, ◌*◌, ◌++◌, ◌∷◌, [], List, ℤ, pos, Some, length, take, drop, get_or, sym, ap, ◌∙◌, refl, arith, append_assoc}
use Rattle.std.proofs.Math.Seq.{drop-append-add}
use Rattle.std.specs.Prelude.{sum_by, slice_get, replicate}
use Rattle.std.specs.List.{flat_map, enumerate_from, All}
use Rattle.std.proofs.lemmas.List.Sums.{sum_by-cons}
use Rattle.tx_dvi.specs.Page.{Page}
use Rattle.tx_dvi.specs.Dvi.{page_bytes, page_size, place_of, pointer_of, pages_bytes, dvi, file_from, filled, preamble, post_bytes, post_post_bytes, filler, four_bytes, StandsAt, PointsBack}

-- pages i and further
abbrev pub pages_after : ℕ → List Page → ℕ → List ℕ
pages_after start pages i = flat_map (λ (numbered : ℕ × Page). page_bytes numbered.1 (pointer_of start pages numbered.0)) (enumerate_from i (drop i pages))

-- in a file that began as `begun`, the pages before page i are there, and `pointer` leads to the last of them
pub record Written (begun file : List ℕ) (pages : List Page) (i : ℕ) (pointer : ℤ) : Type 0 where
  pub bytes : file ++ pages_after (length begun) pages i ≡ begun ++ pages_bytes (length begun) pages
  pub pointer_is : pointer ≡ pointer_of (length begun) pages i
  pub size : length file ≡ place_of (length begun) pages i
  pub bound : length file ≤ 270 + 200046 * i
  pub ten : (k : ℕ) (d : Page) → k < i → length (get_or pages k d).counts ≡ 10

-- the file of at least one page is that of its first page and all of them
dvi-first : (pages : List Page) (first : Page) → slice_get pages 0 ≡ Some first → dvi pages ≡ file_from (length (preamble first)) first pages
dvi-first [] first e = cc
dvi-first (p ∷ ps) first e = let same : p ≡ first = cc in ap (λ (q : Page). file_from (length (preamble q)) q (p ∷ ps)) same

-- the parts of the file, put together
pub assembled : (pages : List Page) (first : Page) {front body ended placed file : List ℕ} {last place : ℤ}
    → slice_get pages 0 ≡ Some first → front ≡ preamble first → body ≡ front ++ pages_bytes (length front) pages
    → last ≡ pointer_of (length front) pages (length pages) → place ≡ pos (place_of (length front) pages (length pages))
    → ended ≡ body ++ post_bytes last first.mag pages → placed ≡ ended ++ post_post_bytes place → file ≡ filled placed
    → file ≡ dvi pages
assembled pages first {front} {body} {ended} {placed} {file} {last} {place} is_first front_is body_is last_is place_is ended_is placed_is file_is =
    rw (file_is, placed_is, ended_is, body_is, last_is, place_is, front_is, dvi-first pages first is_first) (simp append_assoc)

length-counts : (counts : List ℤ) → length (flat_map four_bytes counts) ≡ 4 * length counts
unfolding four_bytes
length-counts [] = refl
length-counts (count ∷ counts) = omega (arith, length-counts counts)

-- a page takes as many bytes as its size says, whatever its pointer
pub size-page_bytes : (page : Page) (pointer : ℤ) → length page.counts ≡ 10 → length (page_bytes page pointer) ≡ page_size page
unfolding four_bytes
size-page_bytes page pointer ten =
    simp length-append (omega (arith, length-counts page.counts, ten))

-- what stands in a file stands in it behind a front too
behind_front : (front : List ℕ) {file : List ℕ} {place : ℕ} {bytes : List ℕ} → StandsAt file place bytes → StandsAt (front ++ file) (length front + place) bytes
behind_front front {file} {place} {bytes} s = record { behind = s.behind; are = drop-append-add front file place ∙ s.are }

-- the same place, the same file, the same bytes
alike : {file file' : List ℕ} {place place' : ℕ} {bytes bytes' : List ℕ} → file ≡ file' → place ≡ place' → bytes ≡ bytes' → StandsAt file place bytes → StandsAt file' place' bytes'
alike {file} {file'} {place} {place'} {bytes} {bytes'} same_file same_place same_bytes s =
    record { behind = s.behind; are = sym (λ i. drop (same_place i) (same_file i)) ∙ s.are ∙ ap (λ (b : List ℕ). b ++ s.behind) same_bytes }

-- pages that are numbered from i on, each with the pointer of its number
numbered_bytes : (ℕ → ℤ) → ℕ → List Page → List ℕ
numbered_bytes points i pages = flat_map (λ (numbered : ℕ × Page). page_bytes numbered.1 (points numbered.0)) (enumerate_from i pages)

-- of these, page k stands behind those before it
stands : (points : ℕ → ℤ) (pages : List Page) (i k : ℕ) (page : Page) (behind : List ℕ)
    → All (λ (p : Page). length p.counts ≡ 10) pages → slice_get pages k ≡ Some page
    → StandsAt (numbered_bytes points i pages ++ behind) (sum_by page_size (take k pages)) (page_bytes page (points (i + k)))
unfolding numbered_bytes
stands points [] i k page behind ten at = cc
stands points (p ∷ ps) i zero page behind ten at =
    let same : p ≡ page = cc in
    let rest : List ℕ = numbered_bytes points (i + 1) ps in
    record {
      behind = rest ++ behind;
      are = append_assoc (page_bytes p (points i)) rest behind ∙ (λ t. page_bytes (same t) (points (sym (add-zero i) t)) ++ (rest ++ behind));
    }
stands points (p ∷ ps) i (suc k) page behind ten at =
    let rest : List ℕ = numbered_bytes points (i + 1) ps in
    let there : StandsAt (rest ++ behind) (sum_by page_size (take k ps)) (page_bytes page (points ((i + 1) + k))) =
    stands points ps (i + 1) k page behind (λ j d h. ten (suc j) d (omega arith)) at in
    let next : (i + 1) + k ≡ i + suc k = omega arith in
    alike (sym (append_assoc (page_bytes p (points i)) rest behind))
    (ap (λ n. n + sum_by page_size (take k ps)) (size-page_bytes p (points i) (ten 0 p (omega arith))) ∙ sym (sum_by-cons page_size p (take k ps)))
    (ap (λ n. page_bytes page (points n)) next)
    (behind_front (page_bytes p (points i)) there)

regroup : (a b c d e : List ℕ) → (((a ++ b) ++ c) ++ d) ++ e ≡ a ++ (b ++ (c ++ (d ++ e)))
regroup a b c d e = simp append_assoc

-- each page of the file stands at its place, with a pointer to the page before it
pub points_back : (pages : List Page) → All (λ (p : Page). length p.counts ≡ 10) pages → PointsBack (dvi pages) pages
unfolding numbered_bytes
points_back [] ten k page at = cc
points_back (first ∷ others) ten k page at =
    let pages : List Page = first ∷ others in
    let front : List ℕ = preamble first in
    let points : ℕ → ℤ = pointer_of (length front) pages in
    let body : List ℕ = numbered_bytes points 0 pages in
    let ended : List ℕ = post_bytes (points (length pages)) first.mag pages in
    let placed : List ℕ = post_post_bytes (pos (place_of (length front) pages (length pages))) in
    let fill : List ℕ = replicate (4 + (4 - length (((front ++ body) ++ ended) ++ placed) % 4) % 4) filler in
    alike (sym (regroup front body ended placed fill)) refl (ap (λ n. page_bytes page (points n)) (zero-add k))
    (behind_front front (stands points pages 0 k page (ended ++ (placed ++ fill)) ten at))
