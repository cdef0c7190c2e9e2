-- A name that stands in the line as it is read.
use Rattle.std.proofs.Common.{◌≡◌, ℕ, zero, suc, ◌+◌, ◌-◌, ◌≤◌, true, List, [], ◌∷◌, ◌++◌, take, drop, length, refl, ap, sym, ◌∙◌, subst, arith}
use Rattle.std.proofs.lemmas.List.{drop-drop}
use Rattle.tx_char.specs.declared.category.Cat.{Cat}
use Rattle.tx_char.specs.Category.{category}
use Rattle.tx_lex.specs.declared.types.Character.{Character}
use Rattle.tx_char.specs.declared.tokens.Token.TheVariants.{Name}
use Rattle.tx_lex.specs.declared.types.ReadState.TheVariants.{S}
use Rattle.tx_lex.specs.Characters.{characters}
use Rattle.tx_lex.specs.Reading.{Read, is_letter, word_reading}
use Rattle.tx_lex.specs.Steps.{IsReadFrom}
use Rattle.tx_lex.proofs.Loops.{Spelling, spelling-end, spelling-on}

-- the bytes from the beginning up to this place are the letters so far
pub record Standing (codes : List Cat) (line : List ℕ) (begin place : ℕ) : Type 0 where
  pub spelling : Spelling codes line begin (take (place - begin) (drop begin line)) place
  pub onward : begin ≤ place
  pub within : place ≤ length line

pub standing-begins : {codes : List Cat} {line : List ℕ} {begin : ℕ} → begin ≤ length line → Standing codes line begin begin
standing-begins {codes} {line} {begin} within = record {
  spelling = (let none : begin - begin ≡ 0 = omega arith in rw none (record { spelled = refl; behind = refl }));
  onward = omega arith;
  within = within;
}

take-more : (n : ℕ) (xs : List ℕ) (c : ℕ) (rest : List ℕ) → drop n xs ≡ c ∷ rest → take (suc n) xs ≡ take n xs ++ c ∷ []
take-more zero [] c rest h = absurd (cc)
take-more zero (x ∷ xs) c rest h = (let same : x ≡ c = cc in rw same refl)
take-more (suc n) [] c rest h = absurd (cc)
take-more (suc n) (x ∷ xs) c rest h = ap (λ (ys : List ℕ). x ∷ ys) (take-more n xs c rest h)

pub standing-on : {codes : List Cat} {line : List ℕ} {begin place : ℕ} {found : Character} → Standing codes line begin place → IsReadFrom codes (drop place line) line found → is_letter (category codes found.code) ≡ true → found.next ≡ place + 1 → drop place line ≡ found.code ∷ drop found.next line → Standing codes line begin found.next
standing-on {codes} {line} {begin} {place} {found} s r letter next plain =
    let onward : begin ≤ place = s.onward in
    let far : place ≡ (place - begin) + begin = omega arith in
    let at : drop (place - begin) (drop begin line) ≡ found.code ∷ drop found.next line = drop-drop (place - begin) begin line ∙ ap (λ n. drop n line) (omega arith) ∙ plain in
    let longer : take (found.next - begin) (drop begin line) ≡ take (place - begin) (drop begin line) ++ found.code ∷ [] =
    (let n : found.next - begin ≡ suc (place - begin) = omega arith in rw n (take-more (place - begin) (drop begin line) found.code (drop found.next line) at)) in
    record {
      spelling = subst (λ (name : List ℕ). Spelling codes line begin name found.next) (sym longer) (spelling-on s.spelling r letter);
      onward = omega arith;
      within = r.within;
    }

-- at the line's end the name is whole
pub standing-end : {codes : List Cat} {line : List ℕ} {begin place : ℕ} → Standing codes line begin place → length line ≤ place → Read (Name (take (length line - begin) (drop begin line))) (drop (length line) line) S ≡ word_reading codes (characters codes (drop begin line))
standing-end {codes} {line} {begin} {place} s past =
    let within : place ≤ length line = s.within in
    let at : length line ≡ place = omega arith in
    subst (λ n. Read (Name (take (n - begin) (drop begin line))) (drop (length line) line) S ≡ word_reading codes (characters codes (drop begin line))) (sym at) (spelling-end s.spelling past)
