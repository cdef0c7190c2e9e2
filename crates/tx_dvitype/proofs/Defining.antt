-- What the reader of a page does at the bytes of the definition of a font.
use Rattle.std.proofs.Common.{◌≡◌, ℕ, suc, ◌+◌, ◌<◌, ◌≤◌, ◌==◌, ◌&&◌, ◌||◌, not, nat_le, nat_lt, true, false, cond, List, [], ◌∷◌, ◌++◌, length, get_or, drop, Some, None, refl, sym, ap, ◌∙◌, inl, inr, arith}
use Rattle.std.proofs.lemmas.Bool.{and_from, cases_lt, eq-eqb, le-leb, le-ltb, lt-leb, lt-ltb, or_left, or_right, cond-true, cond-false, not_from_false}
use Rattle.std.proofs.lemmas.List.{append-nil, get_or_append_left}
use Rattle.byteorder.specs.Numbers.{big_number-reads_back}
use Rattle.tx_dvi.specs.declared.font.FontDefinition.{FontDefinition}
use Rattle.tx_dvi.specs.Dvi.{definition_bytes, unsigned_bytes, IsDefinable}
use Rattle.tx_dvi.specs.Meaning.{Reader as PageReader, carried_out, define, defining, definition_operands, is_known, with_fonts}
use Rattle.tx_dvitype.specs.Files.{with_definition}
use Rattle.tx_dvitype.specs.Grammar.{FntDef1, behind}
use Rattle.tx_dvitype.specs.Partial.{no_widths, may_begin, wanted, past}
use Rattle.tx_dvitype.proofs.Spelling.{Spelled, shorter}

-- the bytes behind fnt_def1: the number, the checksum and two sizes, no area, and the name
abbrev pub behind_def : FontDefinition → List ℕ
behind_def font = font.number ∷ unsigned_bytes font.checksum ++ (unsigned_bytes font.size ++ (unsigned_bytes font.design_size ++ 0 ∷ length font.name ∷ font.name))

pub definition-is : (font : FontDefinition) → definition_bytes font ≡ 243 ∷ behind_def font
unfolding definition_bytes unsigned_bytes
definition-is font = refl

long-definition : (font : FontDefinition) → length (behind_def font) ≡ 15 + length font.name
unfolding unsigned_bytes
long-definition font = omega arith

area : (font : FontDefinition) → get_or (drop 1 (behind_def font)) 12 0 ≡ 0
unfolding unsigned_bytes
area font = refl

no-area : (font : FontDefinition) → get_or (behind_def font) 13 0 ≡ 0
unfolding unsigned_bytes
no-area font = refl

name-long : (font : FontDefinition) → get_or (behind_def font) 14 0 ≡ length font.name
unfolding unsigned_bytes
name-long font = refl

module _ (q : PageReader) (font : FontDefinition) (new : is_known font.number q.fonts.known ≡ false) (room : length q.fonts.known < 256) where
  begins-so : (done text : List ℕ) → done ++ text ≡ behind_def font → may_begin 243 done (record q { begun = 243 ∷ done }) ≡ true
  unfolding may_begin
  begins-so [] text e = lt-ltb (length q.fonts.known) 256 room
  begins-so (number ∷ more) text e =
      let same : number ≡ font.number = ap (λ (xs : List ℕ). get_or xs 0 0) e in
      let left : more ++ text ≡ drop 1 (behind_def font) = ap (λ (xs : List ℕ). drop 1 xs) e in
      let free : is_known number q.fonts.known ≡ false = ap (λ n. is_known n q.fonts.known) same ∙ new in
      let none : (nat_le (length more) 12 || get_or more 12 0 == 0) ≡ true = elim (cases_lt 12 (length more)) [
        | inl past ↦ (let zero : get_or more 12 0 ≡ 0 = sym (get_or_append_left more text 0 12 past) ∙ ap (λ (xs : List ℕ). get_or xs 12 0) left ∙ area font in or_right (nat_le (length more) 12) (get_or more 12 0 == 0) (eq-eqb (get_or more 12 0) 0 zero))
        | inr fits ↦ or_left (nat_le (length more) 12) (get_or more 12 0 == 0) (le-leb (length more) 12 fits)
      ] in
      and_from (not (is_known number q.fonts.known)) (nat_le (length more) 12 || get_or more 12 0 == 0) (not_from_false (is_known number q.fonts.known) free) none

  operands-so : (done text : List ℕ) → done ++ text ≡ behind_def font → 15 ≤ length done → definition_operands (243 ∷ done) ≡ 15 + length font.name
  operands-so done text e many =
      let first : get_or done 13 0 ≡ 0 = sym (get_or_append_left done text 0 13 (omega (arith, many))) ∙ ap (λ (xs : List ℕ). get_or xs 13 0) e ∙ no-area font in
      let second : get_or done 14 0 ≡ length font.name = sym (get_or_append_left done text 0 14 (omega (arith, many))) ∙ ap (λ (xs : List ℕ). get_or xs 14 0) e ∙ name-long font in
      cond-true (nat_lt 15 (suc (length done))) (15 + (get_or done 13 0 + get_or done 14 0)) 15 (lt-ltb 15 (suc (length done)) (omega (arith, many))) ∙ omega (arith, first, second)

  parts-so : (done text : List ℕ) (byte : ℕ) → done ++ byte ∷ text ≡ behind_def font → suc (length done) ≤ definition_operands (243 ∷ done)
  parts-so done text byte e = elim (cases_lt (length done) 15) [
    | inl few ↦ (let same : definition_operands (243 ∷ done) ≡ 15 = cond-false (nat_lt 15 (suc (length done))) (15 + (get_or done 13 0 + get_or done 14 0)) 15 (le-ltb 15 (suc (length done)) (omega (arith, few))) in omega (arith, same, few))
    | inr many ↦ (let same = operands-so done (byte ∷ text) e many in let less = shorter done text (behind_def font) byte e in let all = long-definition font in omega (arith, same, less, all))
  ]

  whole-so : definition_operands (243 ∷ behind_def font) ≡ length (behind_def font)
  whole-so = let all = long-definition font in operands-so (behind_def font) [] (append-nil (behind_def font)) (omega (arith, all)) ∙ sym all

  carried-so : IsDefinable font → carried_out no_widths 243 (behind_def font) q ≡ Some (behind (FntDef1 font) q)
  unfolding unsigned_bytes
  carried-so fits =
      let behind_size : List ℕ = unsigned_bytes font.design_size ++ 0 ∷ length font.name ∷ font.name in
      let behind_checksum : List ℕ = unsigned_bytes font.size ++ behind_size in
      (λ i. define (record {
        number = font.number;
        checksum = big_number-reads_back 4 font.checksum behind_checksum fits.checksum i;
        size = big_number-reads_back 4 font.size behind_size fits.size i;
        design_size = big_number-reads_back 4 font.design_size (0 ∷ length font.name ∷ font.name) fits.design_size i;
        name = font.name;
      }) q)
      ∙ cond-false (is_known font.number q.fonts.known) None (Some (with_fonts (defining font q.fonts) q)) new

  defined-so : (ds : List (List ℕ)) → with_definition (243 ∷ behind_def font) ds ≡ ds ++ definition_bytes font ∷ []
  unfolding wanted
  defined-so ds =
      let fits : nat_le (suc (length (behind_def font))) (definition_operands (243 ∷ behind_def font)) ≡ false
      = (λ i. nat_le (suc (length (behind_def font))) (whole-so i)) ∙ lt-leb (suc (length (behind_def font))) (length (behind_def font)) (omega arith) in
      (λ i. cond {A = List (List ℕ)} (not (fits i) && true) (ds ++ (243 ∷ behind_def font) ∷ []) ds) ∙ (λ i. ds ++ sym (definition-is font) i ∷ [])

  pub spelled-fnt_def1 : IsDefinable font → Spelled q (FntDef1 font) 243 (behind_def font)
  unfolding wanted
  spelled-fnt_def1 fits = record {
    are = definition-is font;
    begins = begins-so;
    parts = λ done text byte e. (definition_operands (243 ∷ done), refl, parts-so done text byte e);
    whole = ap (λ (n : ℕ). Some n) whole-so;
    carried = carried-so fits;
    defined = defined-so;
  }
