-- Groups, token by token.
use Rattle.std.proofs.Common.{◌≡◌, ◌≢◌, ℕ, zero, suc, ◌+◌, ◌-◌, ◌≤◌, ◌<◌, Bool, true, false, cond, ◌&&◌, ◌==◌, not, List, [], ◌∷◌, length, drop, get_or, refl, ap, sym, ◌∙◌, arith, add-one, ◌⊎◌, inl, inr}
use Rattle.std.proofs.lemmas.Bool.Decides.{eqb_tells}
use Rattle.tx_char.specs.declared.tokens.Token.{Token}
use Rattle.tx_toklist.specs.Macros.{is_begin, is_end}
use Rattle.tx_macro.specs.Arguments.{closes_last, level}

-- behind a token that doesn't end the group it goes on
closing-on : (depth : ℕ) (t : Token) (rest : List Token) → (is_end t && depth == 1) ≡ false → closes_last depth (t ∷ rest) ≡ closes_last (level depth t) rest
closing-on depth t [] h = h
closing-on depth t (u ∷ rest) h = ap (λ b. not b && closes_last (level depth t) (u ∷ rest)) h

closing-drop-suc : (depth k : ℕ) (x : Token) (xs : List Token) → k < length xs → x ≡ get_or xs k x → (is_end x && depth == 1) ≡ false → closes_last depth (drop k xs) ≡ closes_last (level depth x) (drop (suc k) xs)
closing-drop-suc depth k x [] short is h = absurd (omega arith)
closing-drop-suc depth zero x (y ∷ xs) short is h =
    let e : x ≡ y = is in
    ap (λ z. closes_last depth (z ∷ xs)) (sym e) ∙ closing-on depth x xs h
closing-drop-suc depth (suc k) x (y ∷ xs) short is h = closing-drop-suc depth k x xs (omega arith) is h

pub closing-drop : (depth k : ℕ) (x : Token) (xs : List Token) → k < length xs → x ≡ get_or xs k x → (is_end x && depth == 1) ≡ false → closes_last depth (drop k xs) ≡ closes_last (level depth x) (drop (k + 1) xs)
closing-drop depth k x xs short is h = closing-drop-suc depth k x xs short is h ∙ ap (λ m. closes_last (level depth x) (drop m xs)) (sym (add-one k))

-- the two ways in which a token doesn't end the group
pub no-close : (t : Token) (depth : ℕ) (e : Bool) → e ≡ is_end t → ((e ≡ true) × (depth ≡ 1 → ⊥)) ⊎ (e ≡ false) → (is_end t && depth == 1) ≡ false
no-close t depth e is (inl p) = elim (eqb_tells depth 1) [
  | inl q ↦ absurd (p.1 q.1)
  | inr q ↦ and-second (is_end t) (depth == 1) q.0
]
  where
    and-second : (a b : Bool) → b ≡ false → (a && b) ≡ false
    and-second true b h = h
    and-second false b h = refl
no-close t depth e is (inr p) = ap (λ b. b && depth == 1) (sym is ∙ p)

-- where a group is open, and this token doesn't end it, one is open behind it too
pub level-bounds : (t : Token) (depth : ℕ) → 1 ≤ depth → (is_end t && depth == 1) ≡ false → (1 ≤ level depth t) × (level depth t ≤ depth + 1)
level-bounds t depth some h = by-cases (is_begin t) (is_end t) h
  where
    by-cases : (b e : Bool) → (e && depth == 1) ≡ false → (1 ≤ cond b (suc depth) (cond e (depth - 1) depth)) × (cond b (suc depth) (cond e (depth - 1) depth) ≤ depth + 1)
    by-cases true e h = (omega arith, omega arith)
    by-cases false false h = (omega arith, omega arith)
    by-cases false true h = elim (eqb_tells depth 1) [
      | inl q ↦ absurd (let r : true ≡ false = sym q.0 ∙ h in cc)
      | inr q ↦ (let other : depth ≡ 1 → ⊥ = q.1 in let least : depth ≢ 1 = other in (omega arith, omega arith))
    ]
