-- The shapes of lines, of which the last one repeats.
use Rattle.std.proofs.Common.{◌≡◌, ℕ, zero, suc, ◌+◌, ◌-◌, ◌<◌, ◌≤◌, min, List, [], ◌∷◌, length, get_or, ◌⊎◌, inl, inr, refl, ap, ◌∙◌, arith}
use Rattle.std.proofs.lemmas.Bool.{cases_lt}
use Rattle.tx_linebreak.specs.declared.params.LineShape.{LineShape}
use Rattle.tx_linebreak.specs.Lines.{line_width}

pub width_at : (shape : List LineShape) (k lines : ℕ) (d : LineShape) → k < length shape → (k ≡ lines) ⊎ ((k + 1 ≡ length shape) × (k ≤ lines)) → line_width shape lines ≡ (get_or shape k d).width
width_at [] k lines d h e = absurd (omega arith)
width_at (s ∷ []) zero lines d h e = refl
width_at (s ∷ []) (suc k) lines d h e = absurd (omega arith)
width_at (s ∷ t ∷ r) zero zero d h e = refl
width_at (s ∷ t ∷ r) zero (suc n) d h (inl e) = absurd (omega arith)
width_at (s ∷ t ∷ r) zero (suc n) d h (inr e) = absurd (omega arith)
width_at (s ∷ t ∷ r) (suc k) zero d h (inl e) = absurd (omega arith)
width_at (s ∷ t ∷ r) (suc k) zero d h (inr e) = absurd (omega arith)
width_at (s ∷ t ∷ r) (suc k) (suc n) d h (inl e) = width_at (t ∷ r) k n d (omega arith) (inl (omega arith))
width_at (s ∷ t ∷ r) (suc k) (suc n) d h (inr e) = width_at (t ∷ r) k n d (omega arith) (inr (omega arith, omega arith))

-- it is the same behind the last line of special shape, and behind any further one
pub width-seen : (shape : List LineShape) (lines special : ℕ) → length shape - 1 ≤ special → line_width shape lines ≡ line_width shape (min lines special)
width-seen [] lines special far = refl
width-seen (s ∷ []) lines special far = refl
width-seen (s ∷ t ∷ r) zero special far = let e : 0 ≡ min 0 special = omega arith in ap (line_width (s ∷ t ∷ r)) e
width-seen (s ∷ t ∷ r) (suc n) special far =
    let e : suc (min n (special - 1)) ≡ min (suc n) special = omega (arith, far) in
    let less : length (t ∷ r) - 1 ≤ special - 1 = omega (arith, far) in
    width-seen (t ∷ r) n (special - 1) less ∙ ap (line_width (s ∷ t ∷ r)) e

-- the place of a line's shape
pub shape_place : (n lines : ℕ) → 0 < n → (min lines (n - 1) ≡ lines) ⊎ ((min lines (n - 1) + 1 ≡ n) × (min lines (n - 1) ≤ lines))
shape_place n lines h = elim (cases_lt lines (n - 1)) [
  | inl below ↦ inl (omega arith)
  | inr above ↦ inr (omega arith, omega arith)
]
