-- Lines above and below formulas, and \vcenter (The TeXbook, appendix G, rules 8 to 10; TeX: The Program, sections 705 and 734 to 736).
use Rattle.std.specs.Prelude.{ℕ, ℤ, pos, ◌+ℤ◌, ◌-ℤ◌, ◌*ℤ◌, [], ◌∷◌, Result}
use Rattle.tx_node.specs.Items.{PackedBox, box_item}
use Rattle.tx_math.specs.declared.error.MathError.{MathError}
use Rattle.tx_math.specs.Boxes.{kern, line, stored, vbox, with_height}
use Rattle.tx_math.specs.Outcomes.{passed}
use Rattle.tx_math.specs.Parameters.{Math, axis, half, rule_thickness}

-- \overline: from the top, a space as high as a line, the line, a space of three lines, and what it is above
unfoldable pub threefold : ℤ → ℤ
threefold r = pos 3 *ℤ r

unfoldable pub overlined_by : Math → ℤ → PackedBox → Result PackedBox MathError
overlined_by m r x = passed (stored (threefold r)) (λ space. vbox m (kern r ∷ line r ∷ kern space ∷ box_item (pos 0) x ∷ []))

unfoldable pub overlined : Math → ℕ → PackedBox → Result PackedBox MathError
overlined m style x = passed (stored (rule_thickness m style)) (λ r. overlined_by m r x)

-- \underline: what it is below, a space of three lines, the line, and a line's depth more; the baseline stays
abbrev pub rebased : ℤ → ℤ → PackedBox → Result PackedBox MathError
rebased r height y = with_height y height (y.head.height +ℤ y.head.depth +ℤ r -ℤ height)

unfoldable pub above_line : Math → ℤ → PackedBox → Result PackedBox MathError
above_line m r x = passed (stored (threefold r)) (λ space. vbox m (box_item (pos 0) x ∷ kern space ∷ line r ∷ []))

unfoldable pub underlined_by : Math → ℤ → PackedBox → Result PackedBox MathError
underlined_by m r x = passed (above_line m r x) (rebased r x.head.height)

unfoldable pub underlined : Math → ℕ → PackedBox → Result PackedBox MathError
underlined m style x = passed (stored (rule_thickness m style)) (λ r. underlined_by m r x)

-- \vcenter: half of the box stands above the axis
abbrev pub centred_about : ℤ → ℤ → PackedBox → Result PackedBox MathError
centred_about size height b = with_height b height (size -ℤ height)

unfoldable pub vcentred : Math → ℕ → PackedBox → Result PackedBox MathError
vcentred m style b = centred_about (b.head.height +ℤ b.head.depth) (axis m style +ℤ half (b.head.height +ℤ b.head.depth)) b
