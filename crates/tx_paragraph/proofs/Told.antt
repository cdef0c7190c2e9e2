-- The lines that \parshape tells.
use Rattle.std.proofs.Common.{◌≡◌, ℕ, ◌-◌, ℤ, pos, ◌≤◌, List, [], ◌∷◌, ◌++◌, length, get_or, take, drop, refl, sym, ap, ◌∙◌, append_assoc, arith}
use Rattle.std.proofs.lemmas.List.{take_all}
use Rattle.tx_linebreak.specs.declared.params.LineShape.{LineShape}
use Rattle.tx_paragraph.specs.Shapes.{told_lines}

-- two sizes tell one line
pub two-told : (sizes : List ℤ) (n : ℕ) (indent width : ℤ) → n ≡ length sizes → 2 ≤ length sizes → indent ≡ get_or sizes 0 (pos 0) → width ≡ get_or sizes 1 (pos 0)
    → told_lines sizes ≡ record { indent = indent; width = width } ∷ told_lines (take (n - 2) (drop 2 sizes))
two-told [] n indent width n_is long indent_is width_is = absurd (omega arith)
two-told (one ∷ []) n indent width n_is long indent_is width_is = absurd (omega arith)
two-told (one ∷ two ∷ sizes) n indent width n_is long indent_is width_is =
    rw (indent_is, width_is, take_all (n - 2) sizes (omega arith)) refl

-- they are put behind the lines so far
pub told-on : (all sizes : List ℤ) (lines more : List LineShape) (n : ℕ) (indent width : ℤ) → n ≡ length sizes → 2 ≤ length sizes → indent ≡ get_or sizes 0 (pos 0) → width ≡ get_or sizes 1 (pos 0)
    → more ≡ lines ++ record { indent = indent; width = width } ∷ [] → lines ++ told_lines sizes ≡ told_lines all
    → more ++ told_lines (take (n - 2) (drop 2 sizes)) ≡ told_lines all
told-on all sizes lines more n indent width n_is long indent_is width_is more_is so_far =
    ap (λ (ls : List LineShape). ls ++ told_lines (take (n - 2) (drop 2 sizes))) more_is
    ∙ append_assoc lines (record { indent = indent; width = width } ∷ []) (told_lines (take (n - 2) (drop 2 sizes)))
    ∙ sym (ap (λ (ls : List LineShape). lines ++ ls) (two-told sizes n indent width n_is long indent_is width_is))
    ∙ so_far
