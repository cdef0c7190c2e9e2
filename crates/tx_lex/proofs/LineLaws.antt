-- Blanks at the end of a text.
use Rattle.std.proofs.Common.{◌≡◌, ◌≢◌, ℕ, ◌+◌, ◌-◌, ◌≤◌, ◌<◌, Bool, true, false, cond, ◌&&◌, inl, inr, List, [], ◌∷◌, ◌++◌, length, take, get_or, eqb, refl, ap, sym, subst, ◌∙◌, arith}
use Rattle.std.specs.List.{list_all}
use Rattle.std.proofs.lemmas.Bool.Decides.{eqb_tells}
use Rattle.std.proofs.lemmas.List.{take_more, take_all}
use Rattle.std.proofs.lemmas.List.Folds.{list_all-append}
use Rattle.tx_lex.specs.Line.{without_trailing_blanks}

-- whether a text has nothing but blanks
abbrev all_blank : List ℕ → Bool
all_blank text = list_all (λ d. eqb d 32) text

eqb-same : (a b : ℕ) → a ≡ b → eqb a b ≡ true
eqb-same a b h = elim (eqb_tells a b) [ inl p ↦ p.0 | inr p ↦ absurd (p.1 h) ]

eqb-other : (a b : ℕ) → a ≢ b → eqb a b ≡ false
eqb-other a b h = elim (eqb_tells a b) [ inl p ↦ absurd (h p.1) | inr p ↦ p.0 ]

and-true : (a : Bool) → (a && true) ≡ a
and-true true = refl
and-true false = refl

and-false : (a : Bool) → (a && false) ≡ false
and-false true = refl
and-false false = refl

all_blank-push : (xs : List ℕ) (y : ℕ) (t : Bool) → eqb y 32 ≡ t → all_blank (xs ++ y ∷ []) ≡ (all_blank xs && t)
all_blank-push xs y t h =
    list_all-append (λ d. eqb d 32) xs (y ∷ []) ∙ ap (λ u. all_blank xs && (u && true)) h ∙ ap (λ u. all_blank xs && u) (and-true t)

-- a blank at the end is dropped
without_trailing_blanks-blank : (xs : List ℕ) (y : ℕ) → eqb y 32 ≡ true → without_trailing_blanks (xs ++ y ∷ []) ≡ without_trailing_blanks xs
without_trailing_blanks-blank [] y h = ap (λ t. cond t [] (y ∷ [])) (all_blank-push [] y true h)
without_trailing_blanks-blank (x ∷ xs) y h =
    let e : all_blank ((x ∷ xs) ++ y ∷ []) ≡ all_blank (x ∷ xs) = all_blank-push (x ∷ xs) y true h ∙ and-true (all_blank (x ∷ xs)) in
    ap (λ t. cond t [] (x ∷ without_trailing_blanks (xs ++ y ∷ []))) e
    ∙ ap (λ r. cond (all_blank (x ∷ xs)) [] (x ∷ r)) (without_trailing_blanks-blank xs y h)

-- a text that ends otherwise stays
without_trailing_blanks-other : (xs : List ℕ) (y : ℕ) → eqb y 32 ≡ false → without_trailing_blanks (xs ++ y ∷ []) ≡ xs ++ y ∷ []
without_trailing_blanks-other [] y h = ap (λ t. cond t [] (y ∷ [])) (all_blank-push [] y false h)
without_trailing_blanks-other (x ∷ xs) y h =
    let e : all_blank ((x ∷ xs) ++ y ∷ []) ≡ false = all_blank-push (x ∷ xs) y false h ∙ and-false (all_blank (x ∷ xs)) in
    ap (λ t. cond t [] (x ∷ without_trailing_blanks (xs ++ y ∷ []))) e
    ∙ ap (λ r. x ∷ r) (without_trailing_blanks-other xs y h)

-- the last character of a part at the front
take-last : (text : List ℕ) (end : ℕ) → 0 < end → end ≤ length text → take end text ≡ take (end - 1) text ++ get_or text (end - 1) 0 ∷ []
take-last text end some within =
    let P : ℕ → Type 0 = λ n. take n text ≡ take (end - 1) text ++ get_or text (end - 1) 0 ∷ [] in
    let e : end - 1 + 1 ≡ end = omega arith in
    subst P e (take_more text (end - 1) 0 (omega arith))

-- the text without its trailing blanks is that of its part before this place, which is no longer
pub record Trimming (text : List ℕ) (end : ℕ) : Type 0 where
  pub within : end ≤ length text
  pub same : without_trailing_blanks text ≡ without_trailing_blanks (take end text)

pub trimming-begin : (text : List ℕ) → Trimming text (length text)
trimming-begin text = record { within = omega arith; same = ap without_trailing_blanks (sym (take_all (length text) text (omega arith))) }

pub trimming-on : {text : List ℕ} {end : ℕ} → Trimming text end → 0 < end → get_or text (end - 1) 0 ≡ 32 → Trimming text (end - 1)
trimming-on {text} {end} t some blank = record {
  within = let w : end ≤ length text = t.within in omega arith;
  same = t.same ∙ ap without_trailing_blanks (take-last text end some t.within)
      ∙ without_trailing_blanks-blank (take (end - 1) text) _ (eqb-same _ _ blank);
}

pub trimming-over : {text : List ℕ} {end : ℕ} → Trimming text end → 0 < end → get_or text (end - 1) 0 ≢ 32 → take end text ≡ without_trailing_blanks text
trimming-over {text} {end} t some other =
    let e : take end text ≡ take (end - 1) text ++ get_or text (end - 1) 0 ∷ [] = take-last text end some t.within in
    e ∙ sym (without_trailing_blanks-other (take (end - 1) text) _ (eqb-other _ _ other)) ∙ ap without_trailing_blanks (sym e) ∙ sym t.same

pub trimming-nothing : {text : List ℕ} {end : ℕ} → Trimming text end → end ≤ 0 → take end text ≡ without_trailing_blanks text
trimming-nothing {text} {end} t none =
    let e : end ≡ 0 = omega arith in
    ap (λ n. take n text) e ∙ sym (t.same ∙ ap (λ n. without_trailing_blanks (take n text)) e)
