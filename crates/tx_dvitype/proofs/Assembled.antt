-- An assembled file is one as the grammar says.
use Rattle.std.proofs.Common.{◌≡◌, ℕ, zero, suc, ◌+◌, ◌-◌, ◌*◌, ◌%◌, ◌^◌, ◌<◌, ◌≤◌, ℤ, pos, negsuc, List, [], ◌∷◌, ◌++◌, length, get_or, take, drop, map, replicate, refl, sym, ap, ◌∙◌, subst, arith, add-zero, length-append, append_assoc, w32, FitsSigned}
use Rattle.std.specs.Prelude.{unsigned_abs, sum_by, codes}
use Rattle.std.specs.Fmt.{signed_decimal}
use Rattle.std.specs.List.{flat_map, enumerate_from, All}
use Rattle.std.proofs.lemmas.Fmt.{IsAscii-signed, length_signed_le}
use Rattle.std.proofs.lemmas.Int.{ints}
use Rattle.std.proofs.lemmas.List.{append-nil, map-append, take_all}
use Rattle.std.proofs.lemmas.List.Concat.{flat_map-append}
use Rattle.std.proofs.lemmas.List.Sums.{sum_by-cons}
use Rattle.tx_dvitype.specs.declared.error.DviRule.{DviRule}
use Rattle.tx_dvi.specs.declared.page.DateParameters.{DateParameters}
use Rattle.tx_dvi.specs.declared.placed.Placed.{Placed}
use Rattle.tx_dvi.specs.Dvi.{comment, day_and_time, definition_bytes, definitions_below, dvi, filler, fonts_of, four_bytes, greatest_height, greatest_nesting, greatest_width, page_bytes, page_size, place_of, pointer_of, post_bytes, post_post_bytes, preamble, two_bytes, units, unsigned_bytes}
use Rattle.tx_dvi.specs.Page.{Page}
use Rattle.tx_dvitype.specs.Grammar.{AreBytes, ArePages, Command, FntDef1, FileText, IsDviFile, PageText, bytes_of, command_bytes, commands_bytes, defines, elements, end_bytes, end_of, fonts_in, last_elements, last_pointer, nowhere, numbers_in, page_long, pages_elements, pointer_to, postamble_bytes}
use Rattle.tx_dvitype.specs.ReadBack.{AreReadable, IsReadable, read_pages}
use Rattle.tx_dvitype.proofs.Bytes.{AreAllBytes, again-bytes, bytes-append, count-bytes, place-bytes, replicate-bytes, signed-bytes, units-bytes}
use Rattle.tx_dvitype.proofs.Commands.{left-bytes, right-bytes}
use Rattle.tx_dvitype.proofs.Complete.{fonts_of as text_fonts}
use Rattle.tx_dvitype.proofs.ReadEnd.{definitions-again}
use Rattle.tx_dvitype.proofs.ReadFront.{count-back}

-- the numbers of a page
counts-bytes : (counts : List ℤ) → AreBytes (flat_map four_bytes counts)
counts-bytes [] = tt
counts-bytes (z ∷ counts) = bytes-append (four_bytes z) (flat_map four_bytes counts) (signed-bytes z) (counts-bytes counts)

length-four : (z : ℤ) → length (four_bytes z) ≡ 4
unfolding four_bytes
length-four z = refl

length-counts : (counts : List ℤ) → length (flat_map four_bytes counts) ≡ 4 * length counts
length-counts [] = refl
length-counts (z ∷ counts) = let one = length-append (four_bytes z) (flat_map four_bytes counts) in let four = length-four z in let others = length-counts counts in omega (arith, one, four, others)

behind-four : (z : ℤ) (rest : List ℕ) → drop 4 (four_bytes z ++ rest) ≡ rest
unfolding four_bytes
behind-four z rest = refl

counts-back : (n : ℕ) (counts : List ℤ) → length counts ≡ n → All (FitsSigned w32) counts → numbers_in n (flat_map four_bytes counts) ≡ counts
counts-back zero [] e fits = refl
counts-back zero (z ∷ counts) e fits = absurd (omega (arith, e))
counts-back (suc n) [] e fits = absurd (omega (arith, e))
counts-back (suc n) (z ∷ counts) e fits =
    let first : FitsSigned w32 z = fits 0 z (omega arith) in
    λ i. count-back z (flat_map four_bytes counts) first i ∷ ((λ j. numbers_in n (behind-four z (flat_map four_bytes counts) j)) ∙ counts-back n counts (omega (arith, e)) (λ k d less. fits (suc k) d (omega (arith, less)))) i

-- the pages as the grammar has them
abbrev text_of : (page : Page) → List Command → PageText
text_of page commands = record { numbers = flat_map four_bytes page.counts; commands = commands }

record Texts (known : List ℕ) (place : ℕ) (pages : List Page) (placed : List (List Placed)) (points : ℕ → ℤ) (i : ℕ) (pointer : List ℕ) : Type 0 where
  texts : List PageText
  are : ArePages known texts (read_pages pages placed)
  many : length texts ≡ length pages
  fonts : text_fonts texts ≡ fonts_of pages
  end : end_of place texts ≡ place + sum_by page_size pages
  last : last_pointer place pointer texts ≡ four_bytes (points (i + length pages))
  bytes : flat_map (λ (numbered : ℕ × Page). page_bytes numbered.1 (points numbered.0)) (enumerate_from i pages) ≡ bytes_of (pages_elements place pointer texts)
  long : length (bytes_of (pages_elements place pointer texts)) ≡ sum_by page_size pages
  are_bytes : AreBytes (bytes_of (pages_elements place pointer texts))
  definitions : AreAllBytes (map definition_bytes (text_fonts texts))

definitions-in : (commands : List Command) → AreBytes (commands_bytes commands) → AreAllBytes (map definition_bytes (fonts_in commands))
definitions-in [] are = tt
definitions-in (c ∷ commands) are = by c (left-bytes (command_bytes c) (commands_bytes commands) are) (definitions-in commands (right-bytes (command_bytes c) (commands_bytes commands) are))
  where
    by : (d : Command) → AreBytes (command_bytes d) → AreAllBytes (map definition_bytes (fonts_in commands)) → AreAllBytes (map definition_bytes (defines d ++ fonts_in commands))
    by (FntDef1 font) first others = (first, others)
    by d first others = others

all-append : (a b : List (List ℕ)) → AreAllBytes a → AreAllBytes b → AreAllBytes (a ++ b)
all-append [] b first others = others
all-append (x ∷ a) b first others = (first.0, all-append a b first.1 others)

pointer-is : (place : ℕ) → place < 2 ^ 32 → four_bytes (pos place) ≡ pointer_to place
unfolding four_bytes unsigned_bytes
pointer-is place small = let low : place ≡ place % 2 ^ 32 = omega (arith, small) in ap (λ n. four_bytes (pos n)) low

length-pointer : (place : ℕ) → length (pointer_to place) ≡ 4
unfolding unsigned_bytes
length-pointer place = refl

regrouped : (c q b r : List ℕ) → (139 ∷ (((c ++ q) ++ b) ++ 140 ∷ [])) ++ r ≡ (139 ∷ (c ++ q)) ++ ((b ++ 140 ∷ []) ++ r)
regrouped c q b r = simp append_assoc

texts-of : (known : List ℕ) (place : ℕ) (pages : List Page) (placed : List (List Placed)) (points : ℕ → ℤ) (i : ℕ) (pointer : List ℕ) → four_bytes (points i) ≡ pointer → length pointer ≡ 4 → AreBytes pointer
    → ((j : ℕ) → points (suc (i + j)) ≡ pos (place + sum_by page_size (take j pages))) → place + sum_by page_size pages < 2 ^ 31 → AreReadable known pages placed → Texts known place pages placed points i pointer
texts-of known place [] [] points i pointer is four small leads fits readable = record {
  texts = [];
  are = tt;
  many = refl;
  fonts = refl;
  end = sym (add-zero place);
  last = sym is ∙ ap (λ n. four_bytes (points n)) (sym (add-zero i));
  bytes = refl;
  long = refl;
  are_bytes = tt;
  definitions = tt;
}
texts-of known place [] (t ∷ placed) points i pointer is four small leads fits readable = absurd readable
texts-of known place (page ∷ pages) [] points i pointer is four small leads fits readable = absurd readable
texts-of known place (page ∷ pages) (t ∷ placed) points i pointer is four small leads fits readable =
    let first : IsReadable known page t = readable.0 in
    let text : PageText = text_of page first.commands in
    let numbers : List ℕ = flat_map four_bytes page.counts in
    let forty : length numbers ≡ 40 = (let long = length-counts page.counts in omega (arith, long, first.ten)) in
    let size : page_long text ≡ page_size page = ap (λ (xs : List ℕ). length xs + 46) (sym first.body) in
    let sum = sum_by-cons page_size page pages in
    let near : suc (i + 0) ≡ i + 1 = omega arith in
    let next_is : four_bytes (points (i + 1)) ≡ pointer_to place = ap (λ n. four_bytes (points n)) (sym near) ∙ ap four_bytes (leads 0) ∙ ap (λ n. four_bytes (pos n)) (add-zero place) ∙ pointer-is place (omega (arith, fits)) in
    let next_leads : (j : ℕ) → points (suc ((i + 1) + j)) ≡ pos ((place + page_long text) + sum_by page_size (take j pages)) = λ j.
    (let index : suc ((i + 1) + j) ≡ suc (i + suc j) = omega arith in
    let one = sum_by-cons page_size page (take j pages) in
    let count : place + sum_by page_size (page ∷ take j pages) ≡ (place + page_long text) + sum_by page_size (take j pages) = omega (arith, one, size) in
    ap points index ∙ leads (suc j) ∙ ap pos count) in
    let o : Texts first.end.fonts.known (place + page_long text) pages placed points (i + 1) (pointer_to place)
    = texts-of first.end.fonts.known (place + page_long text) pages placed points (i + 1) (pointer_to place) next_is (length-pointer place) (place-bytes (place % 2 ^ 32)) next_leads (omega (arith, fits, sum, size)) readable.1 in
    let body_bytes : AreBytes (commands_bytes first.commands) = subst (λ (xs : List ℕ). AreBytes xs) first.body first.are_bytes in
    let later : List ℕ = bytes_of (pages_elements (place + page_long text) (pointer_to place) o.texts) in
    let index : (i + 1) + length pages ≡ i + suc (length pages) = omega arith in
    let l1 = length-append (139 ∷ numbers ++ pointer) ((commands_bytes first.commands ++ 140 ∷ []) ++ later) in
    let l2 = length-append numbers pointer in
    let l3 = length-append (commands_bytes first.commands ++ 140 ∷ []) later in
    let l4 = length-append (commands_bytes first.commands) (140 ∷ []) in
    record {
      texts = text ∷ o.texts;
      are = (record { end = first.end; ten = forty; lead = first.lead; level = first.level; brings = λ k. record { counts = sym (counts-back 10 page.counts first.ten first.counts) k; placed = first.met k } }, o.are);
      many = ap suc o.many;
      fonts = λ k. sym first.fonts k ++ o.fonts k;
      end = o.end ∙ (let all : (place + page_long text) + sum_by page_size pages ≡ place + sum_by page_size (page ∷ pages) = omega (arith, sum, size) in all);
      last = o.last ∙ ap (λ n. four_bytes (points n)) index;
      bytes = (λ k. (139 ∷ (((numbers ++ is k) ++ first.body k) ++ 140 ∷ [])) ++ o.bytes k) ∙ regrouped numbers pointer (commands_bytes first.commands) later;
      long = omega (arith, l1, l2, l3, l4, forty, four, o.long, sum, size);
      are_bytes = bytes-append (139 ∷ numbers ++ pointer) ((commands_bytes first.commands ++ 140 ∷ []) ++ later) (omega arith, bytes-append numbers pointer (counts-bytes page.counts) small)
          (bytes-append (commands_bytes first.commands ++ 140 ∷ []) later (bytes-append (commands_bytes first.commands) (140 ∷ []) body_bytes (omega arith, tt)) o.are_bytes);
      definitions = subst (λ (ds : List (List ℕ)). AreAllBytes ds) (sym (map-append definition_bytes (fonts_in first.commands) (text_fonts o.texts)))
          (all-append (map definition_bytes (fonts_in first.commands)) (map definition_bytes (text_fonts o.texts)) (definitions-in first.commands body_bytes) o.definitions);
    }

-- the comment
ascii-bytes : (xs : List ℕ) → ((i : ℕ) → get_or xs i 0 < 128) → AreBytes xs
ascii-bytes [] small = tt
ascii-bytes (x ∷ xs) small = (let first : x < 128 = small 0 in omega (arith, first), ascii-bytes xs (λ i. small (suc i)))

abs-fits : (z : ℤ) → FitsSigned w32 z → unsigned_abs z ≤ 2 ^ 31
abs-fits (pos n) fits = omega (arith, fits, ints)
abs-fits (negsuc n) fits = omega (arith, fits, ints)

module _ (date : DateParameters) (fits : FitsSigned w32 date.year) where
  year-small : unsigned_abs date.year ≤ 2 ^ 31
  year-small = abs-fits date.year fits

  comment-long : length (comment date) < 256
  comment-long =
      let year : length (signed_decimal date.year) ≤ 11 = length_signed_le 10 date.year (omega (arith, year-small)) (omega (arith, year-small)) in
      let front = length-append (codes " TeX output ") (signed_decimal date.year) in
      let all = length-append (codes " TeX output " ++ signed_decimal date.year) (day_and_time date) in
      omega (arith, year, front, all)

  output-bytes : AreBytes (codes " TeX output ")
  output-bytes = (omega arith, (omega arith, (omega arith, (omega arith, (omega arith, (omega arith, (omega arith, (omega arith, (omega arith, (omega arith, (omega arith, (omega arith, tt))))))))))))

  time-bytes : AreBytes (day_and_time date)
  time-bytes = (omega arith, (omega arith, (omega arith, (omega arith, (omega arith, (omega arith, (omega arith, (omega arith, (omega arith, (omega arith, (omega arith, tt)))))))))))

  comment-bytes : AreBytes (comment date)
  comment-bytes =
      bytes-append (codes " TeX output " ++ signed_decimal date.year) (day_and_time date)
      (bytes-append (codes " TeX output ") (signed_decimal date.year) output-bytes (ascii-bytes (signed_decimal date.year) (IsAscii-signed date.year (omega (arith, year-small))))) time-bytes

-- the postamble, and what stands behind it
post-regrouped : (f u h w n c d : List ℕ) → 248 ∷ (((f ++ u) ++ (((h ++ w) ++ n) ++ c)) ++ d) ≡ 248 ∷ ((((f ++ u) ++ ((h ++ w) ++ n)) ++ c) ++ d)
post-regrouped f u h w n c d = simp append_assoc

all-regrouped : (p b t e f : List ℕ) → ((((p ++ b) ++ t) ++ e) ++ f) ≡ p ++ (b ++ (t ++ (e ++ f)))
all-regrouped p b t e f = simp append_assoc

end-regrouped : (q f : List ℕ) → (249 ∷ (q ++ 2 ∷ [])) ++ f ≡ 249 ∷ (q ++ 2 ∷ f)
end-regrouped q f = simp append_assoc

module _ (first : Page) (others : List Page) (placed : List (List Placed)) (least : 1 ≤ first.mag) (most : first.mag ≤ 32768) (year : FitsSigned w32 first.date.year) (few : length others < 10000)
    (small : length (preamble first) + sum_by page_size (first ∷ others) < 2 ^ 31) (readable : AreReadable [] (first ∷ others) placed) where
  abbrev pages : List Page
  pages = first ∷ others

  abbrev start : ℕ
  start = length (preamble first)

  abbrev points : ℕ → ℤ
  points = pointer_of start pages

  no-pointer : four_bytes (points 0) ≡ nowhere
  unfolding four_bytes
  no-pointer = refl

  t : Texts [] start pages placed points 0 nowhere
  t = texts-of [] start pages placed points 0 nowhere no-pointer refl (omega arith, (omega arith, (omega arith, (omega arith, tt)))) leads small readable
    where
      leads : (j : ℕ) → points (suc (0 + j)) ≡ pos (start + sum_by page_size (take j pages))
      leads j = ap (λ k. pos (start + sum_by page_size (take k pages))) (let n : 0 + j ≡ j = omega arith in n)

  abbrev sizes : List ℕ
  sizes = (four_bytes (greatest_height pages) ++ four_bytes (greatest_width pages)) ++ two_bytes (greatest_nesting pages)

  abbrev file : FileText
  file = record { mag = first.mag; comment = comment first.date; pages = t.texts; sizes = sizes }

  abbrev place : ℕ
  place = end_of start t.texts

  abbrev last : List ℕ
  last = last_pointer start nowhere t.texts

  place-is : place_of start pages (length pages) ≡ place
  place-is = ap (λ (ps : List Page). start + sum_by page_size ps) (take_all (length pages) pages (omega arith)) ∙ sym t.end

  last-is : four_bytes (points (length pages)) ≡ last
  last-is = ap (λ n. four_bytes (points n)) (let n : length pages ≡ 0 + length pages = omega arith in n) ∙ sym t.last

  count-is : two_bytes (length pages) ≡ two_bytes (length t.texts % 2 ^ 16)
  count-is = ap (λ n. two_bytes n) (let many = t.many in let n : length pages ≡ length t.texts % 2 ^ 16 = omega (arith, many, few) in n)

  post-is : post_bytes (points (length pages)) first.mag pages ≡ 248 ∷ postamble_bytes last file
  post-is =
      (λ i. 248 ∷ (((last-is i ++ units first.mag) ++ (((four_bytes (greatest_height pages) ++ four_bytes (greatest_width pages)) ++ two_bytes (greatest_nesting pages)) ++ count-is i)) ++ definitions_below 256 (sym t.fonts i)))
      ∙ post-regrouped last (units first.mag) (four_bytes (greatest_height pages)) (four_bytes (greatest_width pages)) (two_bytes (greatest_nesting pages)) (two_bytes (length t.texts % 2 ^ 16)) (definitions_below 256 (text_fonts t.texts))

  abbrev written : List ℕ
  written = ((preamble first ++ flat_map (λ (numbered : ℕ × Page). page_bytes numbered.1 (points numbered.0)) (enumerate_from 0 pages)) ++ post_bytes (points (length pages)) first.mag pages) ++ post_post_bytes (pos (place_of start pages (length pages)))

  abbrev fill : List ℕ
  fill = replicate (4 + (4 - length written % 4) % 4) filler

  abbrev body : List ℕ
  body = bytes_of (pages_elements start nowhere t.texts)

  written-is : written ≡ ((preamble first ++ body) ++ (248 ∷ postamble_bytes last file)) ++ (249 ∷ (four_bytes (pos place) ++ 2 ∷ []))
  written-is = λ i. ((preamble first ++ t.bytes i) ++ post-is i) ++ post_post_bytes (pos (place-is i))

  written-long : length written ≡ place + 1 + length (postamble_bytes last file) + 6
  written-long =
      let is = ap (λ (xs : List ℕ). length xs) written-is in
      let l1 = length-append ((preamble first ++ body) ++ (248 ∷ postamble_bytes last file)) (249 ∷ (four_bytes (pos place) ++ 2 ∷ [])) in
      let l2 = length-append (preamble first ++ body) (248 ∷ postamble_bytes last file) in
      let l3 = length-append (preamble first) body in
      let l4 = length-append (four_bytes (pos place)) (2 ∷ []) in
      let l5 = length-four (pos place) in
      let l6 = t.long in
      let l7 = t.end in
      omega (arith, is, l1, l2, l3, l4, l5, l6, l7)

  end-is : (249 ∷ (four_bytes (pos place) ++ 2 ∷ [])) ++ fill ≡ end_bytes place (place + 1 + length (postamble_bytes last file))
  end-is =
      let near : place < 2 ^ 32 = (let is = t.end in omega (arith, is, small)) in
      end-regrouped (four_bytes (pos place)) fill ∙ (λ i. 249 ∷ (pointer-is place near i ++ 2 ∷ replicate (4 + (4 - written-long i % 4) % 4) filler))

  parts-are : body ++ bytes_of (last_elements place last file) ≡ bytes_of (pages_elements start nowhere t.texts ++ last_elements place last file)
  parts-are = sym (flat_map-append (λ (e : DviRule × List ℕ). e.1) (pages_elements start nowhere t.texts) (last_elements place last file))

  abbrev end_text : List ℕ
  end_text = end_bytes place (place + 1 + length (postamble_bytes last file))

  file-is : dvi (first ∷ others) ≡ bytes_of (elements file)
  file-is =
      (λ i. written-is i ++ fill)
      ∙ all-regrouped (preamble first) body (248 ∷ postamble_bytes last file) (249 ∷ (four_bytes (pos place) ++ 2 ∷ [])) fill
      ∙ (λ i. preamble first ++ (body ++ (248 ∷ (postamble_bytes last file ++ end-is i))))
      ∙ (λ i. preamble first ++ (body ++ (248 ∷ (postamble_bytes last file ++ sym (append-nil end_text) i))))
      ∙ (λ i. preamble first ++ parts-are i)

  last-bytes : AreBytes last
  last-bytes = subst (λ (xs : List ℕ). AreBytes xs) last-is (signed-bytes (points (length pages)))

  text-bytes : AreBytes (postamble_bytes last file)
  text-bytes =
      bytes-append (((last ++ units first.mag) ++ sizes) ++ two_bytes (length t.texts % 2 ^ 16)) (definitions_below 256 (text_fonts t.texts))
      (bytes-append ((last ++ units first.mag) ++ sizes) (two_bytes (length t.texts % 2 ^ 16))
      (bytes-append (last ++ units first.mag) sizes (bytes-append last (units first.mag) last-bytes (units-bytes first.mag))
      (bytes-append (four_bytes (greatest_height pages) ++ four_bytes (greatest_width pages)) (two_bytes (greatest_nesting pages))
      (bytes-append (four_bytes (greatest_height pages)) (four_bytes (greatest_width pages)) (signed-bytes (greatest_height pages)) (signed-bytes (greatest_width pages))) (count-bytes (greatest_nesting pages))))
      (count-bytes (length t.texts % 2 ^ 16)))
      (subst (λ (xs : List ℕ). AreBytes xs) (definitions-again 256 (text_fonts t.texts)) (again-bytes 256 (map definition_bytes (text_fonts t.texts)) t.definitions))

  end_text-bytes : AreBytes end_text
  end_text-bytes = (omega arith, bytes-append (pointer_to place) (2 ∷ replicate (4 + (4 - (place + 1 + length (postamble_bytes last file) + 6) % 4) % 4) filler) (place-bytes (place % 2 ^ 32)) (omega arith, replicate-bytes (4 + (4 - (place + 1 + length (postamble_bytes last file) + 6) % 4) % 4) 223 (omega arith)))

  all-bytes : AreBytes (preamble first ++ (body ++ (248 ∷ (postamble_bytes last file ++ (end_text ++ [])))))
  all-bytes =
      bytes-append (preamble first) (body ++ (248 ∷ (postamble_bytes last file ++ (end_text ++ []))))
      (omega arith, (omega arith, bytes-append (units first.mag) (length (comment first.date) ∷ comment first.date) (units-bytes first.mag) (comment-long first.date year, comment-bytes first.date year)))
      (bytes-append body (248 ∷ (postamble_bytes last file ++ (end_text ++ []))) t.are_bytes
      (omega arith, bytes-append (postamble_bytes last file) (end_text ++ []) text-bytes (bytes-append end_text [] end_text-bytes tt)))

  sizes-ten : length sizes ≡ 10
  unfolding four_bytes two_bytes
  sizes-ten = refl

  pub assembled : IsDviFile (dvi (first ∷ others)) (read_pages (first ∷ others) placed)
  assembled = (
    file,
    record {
      are_bytes = subst (λ (xs : List ℕ). AreBytes xs) (sym file-is) (subst (λ (xs : List ℕ). AreBytes xs) (λ i. preamble first ++ parts-are i) all-bytes);
      written = file-is;
      mag_least = least;
      mag_most = most;
      comment = comment-long first.date year;
      sizes = sizes-ten;
      some = (let many = t.many in omega (arith, many));
      are_pages = t.are;
    },
  )
