-- Exactly the files of the grammar are read, each with its pages.
use Rattle.std.proofs.Common.{◌≡◌, ℕ, ◌+◌, ◌*◌, ◌/◌, ◌%◌, ◌^◌, ◌<◌, ◌≤◌, ◌==◌, nat_le, nat_lt, Bool, true, false, cond, List, [], ◌∷◌, ◌++◌, length, get_or, take, drop, map, Some, Ok, refl, sym, ap, ◌∙◌, subst, arith, append_assoc}
use Rattle.std.proofs.lemmas.Bool.{and_parts, eqb-true, eq-eqb, leb-true, le-ltb, lt-ltb, ne_eqb}
use Rattle.std.proofs.lemmas.List.{append-nil, drop_more, ext_get_or, get_or-take, length-drop, length-take-le, length_push, take-append-drop}
use Rattle.std.proofs.lemmas.List.Concat.{flat_map-append}
use Rattle.std.proofs.lemmas.Option.{cond_some}
use Rattle.tx_dvitype.specs.declared.error.DviRule.{DviRule}
use Rattle.tx_dvitype.specs.declared.error.DviRule.TheVariants as element
use Rattle.tx_dvitype.specs.declared.reader.ReadPage.{ReadPage}
use Rattle.tx_dvitype.specs.declared.reader.Reader.{Reader}
use Rattle.tx_dvi.specs.declared.font.FontDefinition.{FontDefinition}
use Rattle.tx_dvi.specs.Dvi.{definition_bytes, two_bytes, units}
use Rattle.tx_dvitype.specs.Files.{at_start, behind_preamble, dvi_file, is_mag, is_preamble, mag_in, may_begin_preamble, past_preamble, preamble_start, preamble_taken, rest_read, stands_at, taken, taken_by, with_byte}
use Rattle.tx_dvitype.specs.Grammar.{AreBytes, ArePages, FileText, IsDviFile, IsTextOf, PageText, bytes_of, end_bytes, end_of, last_elements, last_pointer, nowhere, pages_elements, postamble_bytes, preamble_bytes}
use Rattle.tx_dvitype.proofs.Bytes.{byte-at}
use Rattle.tx_dvitype.proofs.Commands.{left-bytes, right-bytes}
use Rattle.tx_dvitype.proofs.Complete.{as-many, fonts_of, read-so}
use Rattle.tx_dvitype.proofs.Elements.{preamble-is}
use Rattle.tx_dvitype.proofs.ReadEnd.{at_byte, definitions-again}
use Rattle.tx_dvitype.proofs.ReadFront.{at_pages}
use Rattle.tx_dvitype.proofs.Sound.{FromPages, Goes, Passed, goes, no-byte, not-done, passed-push, post_text, stood, tail}
use Rattle.tx_dvitype.proofs.Whole.{both}

-- the preamble, once it is whole
module _ (whole : List ℕ) (passed : Passed may_begin_preamble whole) (is : is_preamble whole ≡ true) (are : AreBytes whole) where
  abbrev hi : ℕ
  hi = get_or whole 12 0

  abbrev lo : ℕ
  lo = get_or whole 13 0

  abbrev comment : List ℕ
  comment = drop 15 whole

  long : length whole ≡ 15 + get_or whole 14 0
  long = eqb-true (length whole) (15 + get_or whole 14 0) (and_parts (nat_lt 14 (length whole)) (length whole == 15 + get_or whole 14 0) is).1

  taken-long : (i : ℕ) → i ≤ 14 → length (take i whole) ≡ i
  taken-long i fits = length-take-le i whole (omega (arith, fits, long))

  front-same : take 12 whole ≡ preamble_start
  front-same = ext_get_or 0 (take 12 whole) preamble_start (taken-long 12 (omega arith)) (λ i less. get_or-take 12 whole i 0 (few i less) ∙ there i (few i less))
    where
      few : (i : ℕ) → i < length (take 12 whole) → i < 12
      few i less = let at = taken-long 12 (omega arith) in omega (arith, less, at)

      there : (i : ℕ) → i < 12 → get_or whole i 0 ≡ get_or preamble_start i 0
      there i less =
          let at : length (take i whole) ≡ i = taken-long i (omega (arith, less)) in
          let low : nat_lt (length (take i whole)) 12 ≡ true = lt-ltb (length (take i whole)) 12 (omega (arith, at, less)) in
          stood preamble_start whole i (omega (arith, less, long))
          (sym (λ j. cond {A = Bool} (low j) (stands_at preamble_start (length (take i whole)) (get_or whole i 0)) (cond {A = Bool} (length (take i whole) == 12) (nat_le (get_or whole i 0) 128)
          (cond {A = Bool} (length (take i whole) == 13) (is_mag (256 * get_or (take i whole) 12 0 + get_or whole i 0)) true))) ∙ passed i (omega (arith, less, long)))

  hi-fits : hi ≤ 128
  hi-fits =
      let at : length (take 12 whole) ≡ 12 = taken-long 12 (omega arith) in
      let low : nat_lt (length (take 12 whole)) 12 ≡ false = le-ltb (length (take 12 whole)) 12 (omega (arith, at)) in
      let here : (length (take 12 whole) == 12) ≡ true = eq-eqb (length (take 12 whole)) 12 at in
      leb-true hi 128 (sym (λ j. cond {A = Bool} (low j) (stands_at preamble_start (length (take 12 whole)) hi) (cond {A = Bool} (here j) (nat_le hi 128) (cond {A = Bool} (length (take 12 whole) == 13) (is_mag (256 * get_or (take 12 whole) 12 0 + hi)) true)))
      ∙ passed 12 (omega (arith, long)))

  mag-is : is_mag (256 * hi + lo) ≡ true
  mag-is =
      let at : length (take 13 whole) ≡ 13 = taken-long 13 (omega arith) in
      let low : nat_lt (length (take 13 whole)) 12 ≡ false = le-ltb (length (take 13 whole)) 12 (omega (arith, at)) in
      let no12 : (length (take 13 whole) == 12) ≡ false = ne_eqb (length (take 13 whole)) 12 (λ e. omega (arith, at, e)) in
      let here : (length (take 13 whole) == 13) ≡ true = eq-eqb (length (take 13 whole)) 13 at in
      let first : get_or (take 13 whole) 12 0 ≡ hi = get_or-take 13 whole 12 0 (omega arith) in
      sym (λ j. cond {A = Bool} (low j) (stands_at preamble_start (length (take 13 whole)) lo) (cond {A = Bool} (no12 j) (nat_le lo 128) (cond {A = Bool} (here j) (is_mag (256 * first j + lo)) true))) ∙ passed 13 (omega (arith, long))

  comment-long : length comment ≡ get_or whole 14 0
  comment-long = let left = length-drop 15 whole in omega (arith, left, long)

  whole-is : whole ≡ preamble_start ++ hi ∷ lo ∷ length comment ∷ comment
  whole-is =
      let at12 : drop 12 whole ≡ hi ∷ drop 13 whole = drop_more whole 12 0 (omega (arith, long)) in
      let at13 : drop 13 whole ≡ lo ∷ drop 14 whole = drop_more whole 13 0 (omega (arith, long)) in
      let at14 : drop 14 whole ≡ get_or whole 14 0 ∷ comment = drop_more whole 14 0 (omega (arith, long)) in
      sym (take-append-drop 12 whole) ∙ (λ i. front-same i ++ at12 i) ∙ (λ i. preamble_start ++ hi ∷ at13 i) ∙ (λ i. preamble_start ++ hi ∷ lo ∷ at14 i) ∙ (λ i. preamble_start ++ hi ∷ lo ∷ sym comment-long i ∷ comment)

  abbrev mag : ℕ
  mag = 256 * hi + lo

  mag-least : 1 ≤ mag
  mag-least = leb-true 1 mag (and_parts (nat_le 1 mag) (nat_le mag 32768) mag-is).0

  mag-most : mag ≤ 32768
  mag-most = leb-true mag 32768 (and_parts (nat_le 1 mag) (nat_le mag 32768) mag-is).1

  comment-fits : length comment < 256
  comment-fits = let small : get_or whole 14 0 < 256 = byte-at whole 14 are in omega (arith, small, comment-long)

  preamble-so : (pages : List PageText) (sizes : List ℕ) → preamble_bytes (record { mag = mag; comment = comment; pages = pages; sizes = sizes }) ≡ whole
  preamble-so pages sizes =
      let low : lo < 256 = byte-at whole 13 are in
      let first : mag / 256 % 256 ≡ hi = omega (arith, low, hi-fits) in
      let second : mag % 256 ≡ lo = omega (arith, low) in
      preamble-is (record { mag = mag; comment = comment; pages = pages; sizes = sizes }) mag-most ∙ (λ i. preamble_start ++ first i ∷ second i ∷ length comment ∷ comment) ∙ sym whole-is

  -- and what stands behind it
  module _ (bytes : List ℕ) (all : List ReadPage) (all_are : AreBytes (whole ++ bytes)) (f : FromPages (length whole) [] mag nowhere [] [] bytes all) where
    abbrev file : FileText
    file = record { mag = mag; comment = comment; pages = f.pages; sizes = f.sizes }

    many : length all ≡ length f.pages
    many = ap (λ (xs : List ReadPage). length xs) f.all_is ∙ as-many [] f.pages f.brought f.are

    abbrev fonts : List FontDefinition
    fonts = fonts_of f.pages

    -- from a place on
    module _ (place : ℕ) (last : List ℕ) where
      text-same : post_text mag last (map definition_bytes fonts) (length all) f.sizes ≡ postamble_bytes last file
      text-same = λ i. last ++ units mag ++ f.sizes ++ two_bytes (many i % 2 ^ 16) ++ definitions-again 256 fonts i

      tail-same : tail place mag last (map definition_bytes fonts) (length all) f.sizes ≡ bytes_of (last_elements place last file)
      tail-same = λ i. 248 ∷ (text-same i ++ sym (append-nil (end_bytes place (place + 1 + length (text-same i)))) i)

    from : ℕ → List ℕ
    from start = bytes_of (pages_elements start nowhere f.pages ++ last_elements (end_of start f.pages) (last_pointer start nowhere f.pages) file)

    bytes-same : bytes ≡ bytes_of (pages_elements (length whole) nowhere f.pages ++ last_elements (end_of (length whole) f.pages) (last_pointer (length whole) nowhere f.pages) file)
    bytes-same =
        f.bytes_are ∙ (λ i. bytes_of (pages_elements (length whole) nowhere f.pages) ++ tail-same (end_of (length whole) f.pages) (last_pointer (length whole) nowhere f.pages) i)
        ∙ sym (flat_map-append (λ (e : DviRule × List ℕ). e.1) (pages_elements (length whole) nowhere f.pages) (last_elements (end_of (length whole) f.pages) (last_pointer (length whole) nowhere f.pages) file))

    is-file : IsTextOf (whole ++ bytes) file all
    is-file =
        let same : whole ≡ preamble_bytes file = sym (preamble-so f.pages f.sizes) in
        record {
          are_bytes = all_are;
          written = (λ i. same i ++ bytes-same i) ∙ (λ i. preamble_bytes file ++ bytes_of (pages_elements (length (same i)) nowhere f.pages ++ last_elements (end_of (length (same i)) f.pages) (last_pointer (length (same i)) nowhere f.pages) file));
          mag_least = mag-least;
          mag_most = mag-most;
          comment = comment-fits;
          sizes = f.ten;
          some = (let some : 0 < length all = f.some in omega (arith, some, many));
          are_pages = subst (λ (xs : List ReadPage). ArePages [] f.pages xs) (sym f.all_is) f.are;
        }

    pub whole-file : IsDviFile (whole ++ bytes) all
    whole-file = (file, is-file)

preamble-next : (place : ℕ) (r next : Reader) (byte : ℕ) → r.element ≡ element.Preamble → taken place r byte ≡ Some next → (may_begin_preamble r.page.begun byte ≡ true) × (past_preamble (with_byte byte r) ≡ next)
unfolding taken preamble_taken
preamble-next place r next byte at is = cond_some (may_begin_preamble r.page.begun byte) (past_preamble (with_byte byte r)) next (sym (ap (λ (e : DviRule). taken_by e place r byte) at) ∙ is)

sound-from : (bytes : List ℕ) (place : ℕ) (begun : List ℕ) (all : List ReadPage) → place ≡ length begun → AreBytes (begun ++ bytes) → Passed may_begin_preamble begun → rest_read place (at_byte at_start begun) bytes ≡ Ok all → IsDviFile (begun ++ bytes) all
sound-from [] place begun all count are passed e = not-done place (at_byte at_start begun) all refl e
sound-from (byte ∷ bytes) place begun all count are passed e =
    by (is_preamble (begun ++ byte ∷ [])) refl (ap (λ n. rest_read (place + 1) n bytes) t.1 ∙ g.reads)
    (λ f. sound-from bytes (place + 1) (begun ++ byte ∷ []) all (omega (arith, count, one)) all_are further f)
  where
    g : Goes place (at_byte at_start begun) byte bytes all
    g = goes place (at_byte at_start begun) byte bytes all e

    t : (may_begin_preamble begun byte ≡ true) × (past_preamble (at_byte at_start (begun ++ byte ∷ [])) ≡ g.next)
    t = preamble-next place (at_byte at_start begun) g.next byte refl g.takes

    further : Passed may_begin_preamble (begun ++ byte ∷ [])
    further = passed-push may_begin_preamble begun byte passed t.0

    one : length (begun ++ byte ∷ []) ≡ length begun + 1
    one = length_push begun byte

    all_are : AreBytes ((begun ++ byte ∷ []) ++ bytes)
    all_are = subst (λ (xs : List ℕ). AreBytes xs) (sym (append_assoc begun (byte ∷ []) bytes)) are

    by : (b : Bool) → is_preamble (begun ++ byte ∷ []) ≡ b → rest_read (place + 1) (cond {A = Reader} b (behind_preamble (at_byte at_start (begun ++ byte ∷ []))) (at_byte at_start (begun ++ byte ∷ []))) bytes ≡ Ok all
        → (rest_read (place + 1) (at_byte at_start (begun ++ byte ∷ [])) bytes ≡ Ok all → IsDviFile ((begun ++ byte ∷ []) ++ bytes) all) → IsDviFile (begun ++ byte ∷ bytes) all
    by true is f others =
        let p : FromPages (length (begun ++ byte ∷ [])) [] (mag_in (begun ++ byte ∷ [])) nowhere [] [] bytes all
        = (both bytes (right-bytes (begun ++ byte ∷ []) bytes all_are)).pages (place + 1) (length (begun ++ byte ∷ [])) (at_pages (mag_in (begun ++ byte ∷ []))) [] all refl refl tt tt (omega (arith, count, one)) (λ i less. no-byte i less) f in
        subst (λ (xs : List ℕ). IsDviFile xs all) (append_assoc begun (byte ∷ []) bytes) (whole-file (begun ++ byte ∷ []) further is (left-bytes (begun ++ byte ∷ []) bytes all_are) bytes all all_are p)
    by false is f others = subst (λ (xs : List ℕ). IsDviFile xs all) (append_assoc begun (byte ∷ []) bytes) (others f)

-- what is read is a file
pub sound : (bytes : List ℕ) (pages : List ReadPage) → AreBytes bytes → dvi_file bytes ≡ Ok pages → IsDviFile bytes pages
sound bytes pages are e = sound-from bytes 0 [] pages refl are (λ i less. no-byte i less) e

-- and a file is read
pub complete : (bytes : List ℕ) (pages : List ReadPage) → IsDviFile bytes pages → dvi_file bytes ≡ Ok pages
complete bytes pages is = read-so bytes is.0 pages is.1
