-- What the grammar says to be a file is read so.
use Rattle.std.proofs.Common.{◌≡◌, ℕ, suc, ◌+◌, ◌-◌, ◌%◌, ◌^◌, ◌<◌, true, cond, ℤ, pos, List, [], ◌∷◌, ◌++◌, length, map, replicate, Some, Result, Ok, Err, refl, sym, ap, ◌∙◌, subst, arith, length-append, append_assoc}
use Rattle.std.specs.List.{flat_map}
use Rattle.std.proofs.lemmas.Bool.{eq-eqb}
use Rattle.std.proofs.lemmas.List.{append-nil, map-append}
use Rattle.tx_dvitype.specs.declared.error.DviRule.{DviRule}
use Rattle.tx_dvitype.specs.declared.error.DviRule.TheVariants as element
use Rattle.tx_dvitype.specs.declared.reader.ReadPage.{ReadPage}
use Rattle.tx_dvitype.specs.declared.reader.Reader.{Reader}
use Rattle.tx_dvi.specs.declared.font.FontDefinition.{FontDefinition}
use Rattle.tx_dvi.specs.Dvi.{definition_bytes, definitions_below, filler, four_bytes, two_bytes, units, unsigned_bytes}
use Rattle.tx_dvi.specs.Meaning.{Reader as PageReader, page_start}
use Rattle.tx_dvitype.specs.Files.{Broken, again_below, at_post, at_start, behind_postamble, dvi_file, is_done, place_bytes, postamble, stopped}
use Rattle.tx_dvitype.specs.Grammar.{AreBytes, ArePages, FileText, IsPage, IsTextOf, PageText, bytes_of, commands_bytes, elements, end_bytes, end_of, fonts_in, last_elements, last_pointer, nowhere, numbers_in, page_long, pages_elements, pointer_to, postamble_bytes, preamble_bytes, rules_of}
use Rattle.tx_dvitype.proofs.Commands.{AreRead, behind_commands, commands-within, left-bytes, right-bytes}
use Rattle.tx_dvitype.proofs.Elements.{bop-within, counts-are, end-within, post-within, preamble-within}
use Rattle.tx_dvitype.proofs.Ends.{post-begins}
use Rattle.tx_dvitype.proofs.Numbers.{AreDistinct}
use Rattle.tx_dvitype.proofs.ReadEnd.{at_byte, definitions-again}
use Rattle.tx_dvitype.proofs.ReadFront.{at_page, at_pages, in_page}
use Rattle.tx_dvitype.proofs.ReadPages.{eop-goes}
use Rattle.tx_dvitype.proofs.Steps.{Steps, Within, one-step, steps-append, steps-read, two-steps}

-- bytes that lead to the end of a file of these pages
pub record Ended (place : ℕ) (r : Reader) (bytes : List ℕ) (rules : List DviRule) (pages : List ReadPage) : Type 0 where
  pub final : Reader
  pub steps : Steps place r bytes rules final
  pub done : is_done final ≡ true
  pub brings : final.pages ≡ pages

-- a page
module _ (mag place : ℕ) (pointer : List ℕ) (counts : List ℤ) (p : PageReader) (ds : List (List ℕ)) (read : List ReadPage) (page : PageText) (brought : ReadPage) (four : length pointer ≡ 4) (known : AreBytes p.fonts.known) (distinct : AreDistinct p.fonts.known)
    (are : AreBytes (commands_bytes page.commands)) (is : IsPage p.fonts.known page brought) where
  abbrev in_this : Reader
  in_this = in_page mag (pointer_to place) (numbers_in 10 page.numbers) (page_start p.fonts.known) ds read

  bop-read : Within element.Page place (at_page mag pointer counts p ds read []) (139 ∷ page.numbers ++ pointer) in_this
  bop-read =
      let back : place + 44 - 44 ≡ place = omega arith in
      subst (λ (end : Reader). Within element.Page place (at_page mag pointer counts p ds read []) (139 ∷ page.numbers ++ pointer) end)
      (λ i. in_page mag (place_bytes (back i)) (counts-are 139 page.numbers pointer is.ten i) (page_start p.fonts.known) ds read)
      (bop-within (at_page mag pointer counts p ds read []) page.numbers place refl is.ten four)

  all-read : AreRead (place + 45) in_this (commands_bytes page.commands) is.end (fonts_in page.commands)
  all-read = commands-within (place + 45) in_this page.commands is.end refl (record { begun = refl; near = refl; known = known; distinct = distinct }) are is.lead

  -- (what was met is taken out)
  abbrev pub emptied : PageReader
  emptied = record is.end { met = [] }

  eop-read : Within element.Command (place + 45 + length (commands_bytes page.commands)) (behind_commands in_this is.end (fonts_in page.commands)) (140 ∷ [])
      (at_page mag (pointer_to place) (numbers_in 10 page.numbers) emptied (ds ++ map definition_bytes (fonts_in page.commands)) (read ++ brought ∷ []) [])
  eop-read =
      let level : length is.end.stack ≡ 0 = ap (λ s. length s) is.level in
      let none : length is.end.begun ≡ 0 = ap (λ b. length b) all-read.between.begun in
      one-step (place + 45 + length (commands_bytes page.commands)) (behind_commands in_this is.end (fonts_in page.commands)) (at_page mag (pointer_to place) (numbers_in 10 page.numbers) emptied (ds ++ map definition_bytes (fonts_in page.commands)) (read ++ brought ∷ []) []) 140 element.Command refl
      (eop-goes (place + 45 + length (commands_bytes page.commands)) (behind_commands in_this is.end (fonts_in page.commands)) refl none level
      ∙ (λ i. Some (at_page mag (pointer_to place) (numbers_in 10 page.numbers) emptied (ds ++ map definition_bytes (fonts_in page.commands)) (read ++ sym is.brings i ∷ []) (all-read.between.begun i))))

  pub page-ends : (rest : List ℕ) (rules : List DviRule) (all : List ReadPage)
      → Ended (place + page_long page) (at_page mag (pointer_to place) (numbers_in 10 page.numbers) emptied (ds ++ map definition_bytes (fonts_in page.commands)) (read ++ brought ∷ []) []) rest rules all
      → Ended place (at_page mag pointer counts p ds read []) ((139 ∷ page.numbers ++ pointer) ++ ((commands_bytes page.commands ++ 140 ∷ []) ++ rest))
      (replicate (length (139 ∷ page.numbers ++ pointer)) element.Page ++ (replicate (length (commands_bytes page.commands ++ 140 ∷ [])) element.Command ++ rules)) all
  page-ends rest rules all others =
      let bop_long = length-append page.numbers pointer in
      let body_long = length-append (commands_bytes page.commands) (140 ∷ []) in
      let one : place + length (139 ∷ page.numbers ++ pointer) ≡ place + 45 = omega (arith, bop_long, is.ten, four) in
      let two : (place + 45) + length (commands_bytes page.commands ++ 140 ∷ []) ≡ place + page_long page = omega (arith, body_long) in
      let next : Reader = at_page mag (pointer_to place) (numbers_in 10 page.numbers) emptied (ds ++ map definition_bytes (fonts_in page.commands)) (read ++ brought ∷ []) [] in
      let body : Within element.Command (place + 45) in_this (commands_bytes page.commands ++ 140 ∷ []) next
      = two-steps (place + 45) in_this (behind_commands in_this is.end (fonts_in page.commands)) next (commands_bytes page.commands) (140 ∷ []) element.Command all-read.steps eop-read in
      record {
        final = others.final;
        steps = steps-append place (at_page mag pointer counts p ds read []) in_this others.final (139 ∷ page.numbers ++ pointer) ((commands_bytes page.commands ++ 140 ∷ []) ++ rest) (replicate (length (139 ∷ page.numbers ++ pointer)) element.Page)
            (replicate (length (commands_bytes page.commands ++ 140 ∷ [])) element.Command ++ rules) bop-read
            (subst (λ (n : ℕ). Steps n in_this ((commands_bytes page.commands ++ 140 ∷ []) ++ rest) (replicate (length (commands_bytes page.commands ++ 140 ∷ [])) element.Command ++ rules) others.final) (sym one)
            (steps-append (place + 45) in_this next others.final (commands_bytes page.commands ++ 140 ∷ []) rest (replicate (length (commands_bytes page.commands ++ 140 ∷ [])) element.Command) rules body
            (subst (λ (n : ℕ). Steps n next rest rules others.final) (sym two) others.steps)));
        done = others.done;
        brings = others.brings;
      }

  pub distinct-after : AreDistinct is.end.fonts.known
  distinct-after = all-read.between.distinct

  pub known-after : AreBytes is.end.fonts.known
  known-after = all-read.between.known

-- the fonts that pages define
abbrev pub fonts_of : List PageText → List FontDefinition
fonts_of pages = flat_map (λ (page : PageText). fonts_in page.commands) pages

pub pointer-long : (place : ℕ) → length (pointer_to place) ≡ 4
unfolding unsigned_bytes
pointer-long place = refl

pub pages-end : (mag place : ℕ) (pointer : List ℕ) (counts : List ℤ) (p : PageReader) (ds : List (List ℕ)) (read : List ReadPage) (pages : List PageText) (brought : List ReadPage) (rest : List (DviRule × List ℕ)) (all : List ReadPage)
    → length pointer ≡ 4 → AreBytes p.fonts.known → AreDistinct p.fonts.known → AreBytes (bytes_of (pages_elements place pointer pages ++ rest)) → ArePages p.fonts.known pages brought
    → ((counts' : List ℤ) (p' : PageReader) → Ended (end_of place pages) (at_page mag (last_pointer place pointer pages) counts' p' (ds ++ map definition_bytes (fonts_of pages)) (read ++ brought) []) (bytes_of rest) (rules_of rest) all)
    → Ended place (at_page mag pointer counts p ds read []) (bytes_of (pages_elements place pointer pages ++ rest)) (rules_of (pages_elements place pointer pages ++ rest)) all
pages-end mag place pointer counts p ds read [] [] rest all four known distinct bytes are others =
    subst (λ (r : Reader). Ended place r (bytes_of rest) (rules_of rest) all) (λ i. at_page mag pointer counts p (append-nil ds i) (append-nil read i) []) (others counts p)
pages-end mag place pointer counts p ds read [] (b ∷ brought) rest all four known distinct bytes are others = absurd are
pages-end mag place pointer counts p ds read (page ∷ pages) [] rest all four known distinct bytes are others = absurd are
pages-end mag place pointer counts p ds read (page ∷ pages) (b ∷ brought) rest all four known distinct bytes are others =
    let later : List ℕ = bytes_of (pages_elements (place + page_long page) (pointer_to place) pages ++ rest) in
    let behind_bytes : AreBytes ((commands_bytes page.commands ++ 140 ∷ []) ++ later) = right-bytes (139 ∷ page.numbers ++ pointer) ((commands_bytes page.commands ++ 140 ∷ []) ++ later) bytes in
    let body_bytes : AreBytes (commands_bytes page.commands) = left-bytes (commands_bytes page.commands) (140 ∷ []) (left-bytes (commands_bytes page.commands ++ 140 ∷ []) later behind_bytes) in
    let is : IsPage p.fonts.known page b = are.0 in
    let fonts : (ds ++ map definition_bytes (fonts_in page.commands)) ++ map definition_bytes (fonts_of pages) ≡ ds ++ map definition_bytes (fonts_in page.commands ++ fonts_of pages)
    = append_assoc ds (map definition_bytes (fonts_in page.commands)) (map definition_bytes (fonts_of pages)) ∙ ap (λ (xs : List (List ℕ)). ds ++ xs) (sym (map-append definition_bytes (fonts_in page.commands) (fonts_of pages))) in
    page-ends mag place pointer counts p ds read page b four known distinct body_bytes is later (rules_of (pages_elements (place + page_long page) (pointer_to place) pages ++ rest)) all
    (pages-end mag (place + page_long page) (pointer_to place) (numbers_in 10 page.numbers) (record is.end { met = [] }) (ds ++ map definition_bytes (fonts_in page.commands)) (read ++ b ∷ []) pages brought rest all (pointer-long place)
    (known-after mag place pointer counts p ds read page b four known distinct body_bytes is) (distinct-after mag place pointer counts p ds read page b four known distinct body_bytes is)
    (right-bytes (commands_bytes page.commands ++ 140 ∷ []) later behind_bytes) are.1
    (λ counts' p'. subst (λ (r : Reader). Ended (end_of (place + page_long page) pages) r (bytes_of rest) (rules_of rest) all)
    (λ i. at_page mag (last_pointer (place + page_long page) (pointer_to place) pages) counts' p' (sym fonts i) (sym (append_assoc read (b ∷ []) brought) i) []) (others counts' p')))

-- the pointer to the last page is one
pub last-long : (place : ℕ) (pointer : List ℕ) (pages : List PageText) → length pointer ≡ 4 → length (last_pointer place pointer pages) ≡ 4
last-long place pointer [] four = four
last-long place pointer (page ∷ pages) four = last-long (place + page_long page) (pointer_to place) pages (pointer-long place)

-- the elements from post on
units-long : (mag : ℕ) → length (units mag) ≡ 12
unfolding four_bytes
units-long mag = refl

module _ (place : ℕ) (last : List ℕ) (counts : List ℤ) (p : PageReader) (read : List ReadPage) (file : FileText) (four : length last ≡ 4) (ten : length file.sizes ≡ 10) (some : 0 < length read) (many : length read ≡ length file.pages) where
  abbrev fonts : List FontDefinition
  fonts = fonts_of file.pages

  abbrev r0 : Reader
  r0 = at_page file.mag last counts p (map definition_bytes fonts) read []

  abbrev front : List ℕ
  front = 248 ∷ (last ++ units file.mag)

  abbrev back : List ℕ
  back = two_bytes (length file.pages % 2 ^ 16) ++ definitions_below 256 fonts

  regrouped : (a u s t d : List ℕ) → 248 ∷ ((((a ++ u) ++ s) ++ t) ++ d) ≡ (248 ∷ (a ++ u)) ++ (s ++ (t ++ d))
  regrouped a u s t d = ap (λ (xs : List ℕ). 248 ∷ xs) (append_assoc ((a ++ u) ++ s) t d ∙ append_assoc (a ++ u) s (t ++ d))

  text-is : 248 ∷ postamble_bytes last file ≡ front ++ (file.sizes ++ back)
  text-is = regrouped last (units file.mag) file.sizes (two_bytes (length file.pages % 2 ^ 16)) (definitions_below 256 fonts)

  expected-is : postamble r0 ≡ front ++ (replicate 10 0 ++ back)
  expected-is =
      regrouped last (units file.mag) (replicate 10 0) (two_bytes (length read % 2 ^ 16)) (again_below 256 (map definition_bytes fonts))
      ∙ (λ i. front ++ (replicate 10 0 ++ (two_bytes (many i % 2 ^ 16) ++ definitions-again 256 fonts i)))

  front-long : length front ≡ 17
  front-long = let one = length-append last (units file.mag) in let two = units-long file.mag in omega (arith, one, two, four)

  abbrev r1 : Reader
  r1 = at_post r0

  abbrev all : List ℕ
  all = front ++ (file.sizes ++ back)

  abbrev r2 : Reader
  r2 = behind_postamble (place + (26 + length back)) (at_byte r1 all)

  post-steps : Within element.Postamble (place + 1) r1 (postamble_bytes last file) r2
  post-steps = post-within r1 place front file.sizes (replicate 10 0) back refl expected-is front-long ten refl 248 (postamble_bytes last file) text-is

  text-long : length (postamble_bytes last file) ≡ 26 + length back
  text-long =
      let is : suc (length (postamble_bytes last file)) ≡ length all = ap (λ (xs : List ℕ). length xs) text-is in
      let one = length-append front (file.sizes ++ back) in
      let two = length-append file.sizes back in
      omega (arith, is, one, two, front-long, ten)

  abbrev end : List ℕ
  end = end_bytes place (place + 1 + length (postamble_bytes last file))

  end-is : r2.expected ≡ end
  end-is =
      let long : length (postamble r0) ≡ 27 + length back = ap (λ (xs : List ℕ). length xs) expected-is ∙ (let one = length-append front (replicate 10 0 ++ back) in let n : length (front ++ (replicate 10 0 ++ back)) ≡ 27 + length back = omega (arith, one, front-long) in n) in
      let back_at : place + (26 + length back) - (length (postamble r0) - 1) ≡ place = omega (arith, long) in
      let left : ((place + (26 + length back)) % 4 + 7) % 4 ≡ (place + 1 + length (postamble_bytes last file) + 6) % 4 = omega (arith, text-long) in
      λ i. 249 ∷ place_bytes (back_at i) ++ 2 ∷ replicate (4 + (4 - left i) % 4) filler

  abbrev pub last_reader : Reader
  last_reader = at_byte r2 end

  pub last-steps : Steps place r0 (bytes_of (last_elements place last file)) (rules_of (last_elements place last file)) last_reader
  last-steps =
      let begun : Within element.Page place r0 (248 ∷ []) r1 = one-step place r0 r1 248 element.Page refl (post-begins place r0 refl refl some) in
      let count : place + 1 + length (postamble_bytes last file) ≡ (place + 1) + length (postamble_bytes last file) = omega arith in
      let ends : Within element.End (place + 1 + length (postamble_bytes last file)) r2 end last_reader = end-within r2 (place + 1 + length (postamble_bytes last file)) end refl end-is (omega arith) in
      steps-append place r0 r1 last_reader (248 ∷ []) (postamble_bytes last file ++ (end ++ [])) (element.Page ∷ []) (replicate (length (postamble_bytes last file)) element.Postamble ++ (replicate (length end) element.End ++ [])) begun
      (steps-append (place + 1) r1 r2 last_reader (postamble_bytes last file) (end ++ []) (replicate (length (postamble_bytes last file)) element.Postamble) (replicate (length end) element.End ++ []) post-steps
      (subst (λ (n : ℕ). Steps n r2 (end ++ []) (replicate (length end) element.End ++ []) last_reader) count
      (steps-append (place + 1 + length (postamble_bytes last file)) r2 last_reader last_reader end [] (replicate (length end) element.End) [] ends (refl, refl))))

  pub last-done : is_done last_reader ≡ true
  last-done = eq-eqb (length end) (length r2.expected) (ap (λ (xs : List ℕ). length xs) (sym end-is))

-- a file
pub as-many : (known : List ℕ) (pages : List PageText) (brought : List ReadPage) → ArePages known pages brought → length brought ≡ length pages
as-many known [] [] are = refl
as-many known [] (b ∷ brought) are = absurd are
as-many known (page ∷ pages) [] are = absurd are
as-many known (page ∷ pages) (b ∷ brought) are = ap suc (as-many are.0.end.fonts.known pages brought are.1)

pub file-ends : (bytes : List ℕ) (file : FileText) (pages : List ReadPage) → IsTextOf bytes file pages → Ended 0 at_start bytes (rules_of (elements file)) pages
file-ends bytes file pages is =
    let start : ℕ = length (preamble_bytes file) in
    let place : ℕ = end_of start file.pages in
    let last : List ℕ = last_pointer start nowhere file.pages in
    let many : length pages ≡ length file.pages = as-many [] file.pages pages is.are_pages in
    let some : 0 < length pages = omega (arith, many, is.some) in
    let four : length last ≡ 4 = last-long start nowhere file.pages refl in
    let corner : PageReader = page_start [] in
    let rest : List (DviRule × List ℕ) = last_elements place last file in
    let later : List ℕ = bytes_of (pages_elements start nowhere file.pages ++ rest) in
    let all_bytes : AreBytes (preamble_bytes file ++ later) = subst (λ (xs : List ℕ). AreBytes xs) is.written is.are_bytes in
    let t : Ended start (at_pages file.mag) later (rules_of (pages_elements start nowhere file.pages ++ rest)) pages
    = pages-end file.mag start nowhere (replicate 10 (pos 0)) corner [] [] file.pages pages rest pages refl tt tt (right-bytes (preamble_bytes file) later all_bytes) is.are_pages
    (λ counts p. record {
      final = last_reader place last counts p pages file four is.sizes some many;
      steps = last-steps place last counts p pages file four is.sizes some many;
      done = last-done place last counts p pages file four is.sizes some many;
      brings = refl;
    }) in
    record {
      final = t.final;
      steps = subst (λ (xs : List ℕ). Steps 0 at_start xs (rules_of (elements file)) t.final) (sym is.written)
          (steps-append 0 at_start (at_pages file.mag) t.final (preamble_bytes file) later (replicate (length (preamble_bytes file)) element.Preamble) (rules_of (pages_elements start nowhere file.pages ++ rest))
          (preamble-within file is.mag_least is.mag_most) (subst (λ (n : ℕ). Steps n (at_pages file.mag) later (rules_of (pages_elements start nowhere file.pages ++ rest)) t.final) (let n : start ≡ 0 + start = omega arith in n) t.steps));
      done = t.done;
      brings = t.brings;
    }

-- what is read of it
pub read-so : (bytes : List ℕ) (file : FileText) (pages : List ReadPage) → IsTextOf bytes file pages → dvi_file bytes ≡ Ok pages
read-so bytes file pages is =
    let t : Ended 0 at_start bytes (rules_of (elements file)) pages = file-ends bytes file pages is in
    ap (λ (xs : List ℕ). dvi_file xs) (sym (append-nil bytes))
    ∙ steps-read 0 at_start t.final bytes [] (rules_of (elements file)) t.steps
    ∙ (λ i. cond {A = Result (List ReadPage) Broken} (t.done i) (Ok t.final.pages) (Err (stopped (0 + length bytes) t.final)))
    ∙ (λ i. Ok (t.brings i))
