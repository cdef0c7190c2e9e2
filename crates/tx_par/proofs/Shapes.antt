-- The indents of lines, of which the last one repeats.
use Rattle.std.proofs.Common.{◌≡◌, ℕ, zero, suc, ◌+◌, ◌<◌, ◌≤◌, List, [], ◌∷◌, length, get_or, ◌⊎◌, inl, inr, refl, arith}
use Rattle.tx_linebreak.specs.declared.params.LineShape.{LineShape}
use Rattle.tx_par.specs.Setting.{line_indent}

pub indent_at : (shape : List LineShape) (k lines : ℕ) (d : LineShape) → k < length shape → (k ≡ lines) ⊎ ((k + 1 ≡ length shape) × (k ≤ lines)) → line_indent shape lines ≡ (get_or shape k d).indent
indent_at [] k lines d h e = absurd (omega arith)
indent_at (s ∷ []) zero lines d h e = refl
indent_at (s ∷ []) (suc k) lines d h e = absurd (omega arith)
indent_at (s ∷ t ∷ r) zero zero d h e = refl
indent_at (s ∷ t ∷ r) zero (suc n) d h (inl e) = absurd (omega arith)
indent_at (s ∷ t ∷ r) zero (suc n) d h (inr e) = absurd (omega arith)
indent_at (s ∷ t ∷ r) (suc k) zero d h (inl e) = absurd (omega arith)
indent_at (s ∷ t ∷ r) (suc k) zero d h (inr e) = absurd (omega arith)
indent_at (s ∷ t ∷ r) (suc k) (suc n) d h (inl e) = indent_at (t ∷ r) k n d (omega arith) (inl (omega arith))
indent_at (s ∷ t ∷ r) (suc k) (suc n) d h (inr e) = indent_at (t ∷ r) k n d (omega arith) (inr (omega arith, omega arith))
