-- A letter of `plus` is none of `minus`.
use Rattle.std.proofs.Common.{◌≡◌, ◌≤◌, ◌+◌, ◌==◌, ◌||◌, ℕ, zero, suc, true, false, List, ◌∷◌, drop, codes, refl, ap, sym, ◌∙◌, arith}
use Rattle.std.proofs.lemmas.Bool.Decides.{nat_tests}
use Rattle.tx_char.specs.declared.category.Cat.TheVariants.{Escape, BeginGroup, EndGroup, MathShift, AlignmentTab, EndOfLine, Parameter, Superscript, Subscript, Ignored, Space, Letter, Other, Active, Comment, Invalid}
use Rattle.tx_char.specs.declared.tokens.Token.{Token}
use Rattle.tx_char.specs.declared.tokens.Token.TheVariants as token
use Rattle.tx_seen.specs.declared.meaning.Meaning.{Meaning}
use Rattle.tx_seen.specs.declared.seen.Seen.{Seen}
use Rattle.tx_seen.specs.Seen.{is_key}

-- a letter or its capital is no m
codes-differ : (c code : ℕ) → (c ≡ 109 → ⊥) → 78 ≤ c → c ≤ 140 → ((code == c) || (code + 32 == c)) ≡ true → ((code == 109) || (code + 32 == 109)) ≡ false
codes-differ c code other low high h = grind (arith, nat_tests)

other-by : (c : ℕ) (t : Token) (m : Meaning) → (c ≡ 109 → ⊥) → 78 ≤ c → c ≤ 140 → is_key c (record { token = t; meaning = m }) ≡ true → is_key 109 (record { token = t; meaning = m }) ≡ false
other-by c (token.Character code Escape) m other low high h = codes-differ c code other low high h
other-by c (token.Character code BeginGroup) m other low high h = codes-differ c code other low high h
other-by c (token.Character code EndGroup) m other low high h = codes-differ c code other low high h
other-by c (token.Character code MathShift) m other low high h = codes-differ c code other low high h
other-by c (token.Character code AlignmentTab) m other low high h = codes-differ c code other low high h
other-by c (token.Character code EndOfLine) m other low high h = codes-differ c code other low high h
other-by c (token.Character code Parameter) m other low high h = codes-differ c code other low high h
other-by c (token.Character code Superscript) m other low high h = codes-differ c code other low high h
other-by c (token.Character code Subscript) m other low high h = codes-differ c code other low high h
other-by c (token.Character code Ignored) m other low high h = codes-differ c code other low high h
other-by c (token.Character code Space) m other low high h = codes-differ c code other low high h
other-by c (token.Character code Letter) m other low high h = codes-differ c code other low high h
other-by c (token.Character code Other) m other low high h = codes-differ c code other low high h
other-by c (token.Character code Active) m other low high h = refl
other-by c (token.Character code Comment) m other low high h = codes-differ c code other low high h
other-by c (token.Character code Invalid) m other low high h = codes-differ c code other low high h
other-by c (token.Name name) m other low high h = refl
other-by c token.FrozenRelax m other low high h = refl
other-by c (token.FontIdentifier font) m other low high h = refl

other-key : (c d : ℕ) (t : Seen) → c ≡ d → (d ≡ 109 → ⊥) → 78 ≤ d → d ≤ 140 → is_key c t ≡ true → is_key 109 t ≡ false
other-key c d t same other low high h = other-by d t.token t.meaning other low high (ap (λ (x : ℕ). is_key x t) (sym same) ∙ h)

pub plus-letter : (read c : ℕ) (word : List ℕ) (t : Seen) → read ≤ 3 → drop read (codes "plus") ≡ c ∷ word → is_key c t ≡ true → is_key 109 t ≡ false
plus-letter zero c word t few e h = let same : c ≡ 112 = cc in other-key c 112 t same (λ x. omega (arith, x)) (omega arith) (omega arith) h
plus-letter (suc zero) c word t few e h = let same : c ≡ 108 = cc in other-key c 108 t same (λ x. omega (arith, x)) (omega arith) (omega arith) h
plus-letter (suc (suc zero)) c word t few e h = let same : c ≡ 117 = cc in other-key c 117 t same (λ x. omega (arith, x)) (omega arith) (omega arith) h
plus-letter (suc (suc (suc zero))) c word t few e h = let same : c ≡ 115 = cc in other-key c 115 t same (λ x. omega (arith, x)) (omega arith) (omega arith) h
plus-letter (suc (suc (suc (suc read)))) c word t few e h = absurd (omega (arith, few))
