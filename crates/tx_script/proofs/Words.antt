-- Reading one of some words, which begin with different letters.
use Rattle.std.proofs.Common.{◌≡◌, ℕ, ◌<◌, true, false, List, [], ◌∷◌, ◌++◌, get_or, refl, sym, ap, ◌∙◌, arith, ◌⊎◌, inl, inr}
use Rattle.std.specs.Prelude.{Result, Ok, Err}
use Rattle.std.proofs.lemmas.Bool.{eqb-true, eqb-false}
use Rattle.tx_script.specs.declared.error.Broken.{Broken}
use Rattle.tx_script.specs.declared.error.Rule.TheVariants.{Word}
use Rattle.tx_script.specs.Reading.{◌>>=◌, begins_with, literal_at}
use Rattle.tx_script.proofs.Forms.{Reads, of_element, failed, ok_is, err_is, ok_or_err}
use Rattle.tx_script.proofs.Literals.{literal_takes, literal_again, literal_breaks}

-- the first letter of some bytes
pub begins : (letter : ℕ) (xs : List ℕ) → begins_with letter xs ≡ true → get_or xs 0 0 ≡ letter
begins letter [] e = absurd cc
begins letter (x ∷ xs) e = eqb-true x letter e

pub begins-not : (letter : ℕ) (xs : List ℕ) → 0 < letter → begins_with letter xs ≡ false → get_or xs 0 0 ≡ letter → ⊥
begins-not letter [] some e h = absurd (omega (arith, h))
begins-not letter (x ∷ xs) some e h = eqb-false x letter e h

same_head : (front : List ℕ) (c : ℕ) (x y : List ℕ) → get_or (front ++ c ∷ x) 0 0 ≡ get_or (front ++ c ∷ y) 0 0
same_head [] c x y = refl
same_head (a ∷ front) c x y = refl

-- one word, where the bytes don't begin as the others do
module _ {W : Type 0} (word_text : W → List ℕ) (first : (v : W) (rest : List ℕ) → get_or (word_text v ++ rest) 0 0 ≡ get_or (word_text v) 0 0) where
  pub one_word : (w : W) (bytes : List ℕ) → ((v : W) → (v ≡ w) ⊎ (get_or bytes 0 0 ≡ get_or (word_text v) 0 0 → ⊥))
      → Reads (λ v. Unit {0}) (λ v. (Word, word_text v) ∷ []) bytes (literal_at Word (word_text w) bytes >>= λ rest. Ok (w, rest))
  one_word w bytes other = go (literal_at Word (word_text w) bytes) refl
    where
      beginning : (v : W) (rest : List ℕ) → bytes ≡ word_text v ++ rest → get_or bytes 0 0 ≡ get_or (word_text v) 0 0
      beginning v rest e = ap (λ (x : List ℕ). get_or x 0 0) e ∙ first v rest

      its : (v : W) (rest : List ℕ) → bytes ≡ word_text v ++ rest → v ≡ w
      its v rest e = elim (other v) [ inl same ↦ same | inr not ↦ absurd (not (beginning v rest e)) ]

      go : (x : Result (List ℕ) Broken) → literal_at Word (word_text w) bytes ≡ x → Reads (λ v. Unit {0}) (λ v. (Word, word_text v) ∷ []) bytes (x >>= λ rest. Ok (w, rest))
      go (Ok x) e = of_element (λ v. Unit {0}) word_text Word bytes (Ok (w, x))
          (λ v rest h.
          let same = ok_is {A = W × List ℕ} (w, x) (v, rest) h in
          (tt, literal_takes Word (word_text w) bytes x e ∙ ap (λ (z : W × List ℕ). word_text z.0 ++ z.1) same))
          (λ v rest fits h.
          let is = its v rest h in
          let same = ok_is x rest (sym e ∙ literal_again Word (word_text w) bytes rest (h ∙ ap (λ (z : W). word_text z ++ rest) is)) in
          λ i. Ok (sym is i, same i))
          (λ b h. absurd (ok_or_err {A = W × List ℕ} (w, x) b h))
      go (Err d) e = of_element (λ v. Unit {0}) word_text Word bytes (Err d)
          (λ v rest h. absurd (ok_or_err {A = W × List ℕ} (v, rest) d (sym h)))
          (λ v rest fits h.
          let is = its v rest h in
          absurd (ok_or_err rest d (sym (literal_again Word (word_text w) bytes rest (h ∙ ap (λ (z : W). word_text z ++ rest) is)) ∙ e)))
          (λ b h.
          let k = literal_breaks Word (word_text w) bytes b (e ∙ ap (λ (z : Broken). failed {A = List ℕ} z) (err_is {A = W × List ℕ} d b h)) in
          record {
            read = k.read;
            rest = k.rest;
            split = k.split;
            left = k.left;
            rule_is = k.rule_is;
            whose = w;
            more = k.more;
            fits = tt;
            begins = k.begins;
            none = λ v c more others fits is eq.
                elim (other v) [
                  | inl same ↦ k.none c more others is (ap word_text (sym same) ∙ eq)
                  | inr not ↦ not (ap (λ (x : List ℕ). get_or x 0 0) (k.split ∙ ap (λ (x : List ℕ). k.read ++ x) is) ∙ same_head k.read c others more ∙ ap (λ (x : List ℕ). get_or x 0 0) (sym eq))
                ];
          })
