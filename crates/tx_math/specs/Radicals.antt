-- \radical (The TeXbook, appendix G, rule 11; TeX: The Program, sections 705 and 737).
use Rattle.std.specs.Prelude.{ℕ, ℤ, pos, ◌+ℤ◌, ◌-ℤ◌, neg_ℤ, int_lt, [], ◌∷◌, Result, if◌then◌else◌}
use Rattle.tx_node.specs.Items.{PackedBox, box_item}
use Rattle.tx_mlist.specs.declared.kinds.Delimiter.{Delimiter}
use Rattle.tx_math.specs.declared.error.MathError.{MathError}
use Rattle.tx_math.specs.declared.signs.Sign.{Sign}
use Rattle.tx_math.specs.Boxes.{hbox, kern, line, stored, vbox}
use Rattle.tx_math.specs.Delimiters.{sign_of}
use Rattle.tx_math.specs.Outcomes.{passed}
use Rattle.tx_math.specs.Parameters.{Math, half, quarter, rule_thickness, x_height}
use Rattle.tx_math.specs.Styles.{is_display}

-- how far the line is above what stands below it, at first: as lines are thick, and in display style a quarter of the x-height more,
-- else a quarter of that thickness
abbrev pub clearance_unit : Math → ℕ → ℤ
clearance_unit m style = if is_display style then x_height m style else rule_thickness m style

unfoldable pub first_clearance : Math → ℕ → ℤ
first_clearance m style = rule_thickness m style +ℤ quarter (clearance_unit m style)

-- how far that reaches from its depth to the line
unfoldable pub radicand_size : PackedBox → ℤ → ℤ
radicand_size x clearance = x.head.height +ℤ x.head.depth +ℤ clearance

-- the sign has to be a line taller
unfoldable pub sign_size : Math → ℕ → PackedBox → ℤ
sign_size m style x = radicand_size x (first_clearance m style) +ℤ rule_thickness m style

-- half of what the sign is deeper than that stands above what is below the line, too
abbrev pub grown_by : ℤ → ℤ → ℤ
grown_by excess clearance = if int_lt (pos 0) excess then clearance +ℤ half excess else clearance

unfoldable pub clearance_of : PackedBox → PackedBox → ℤ → ℤ
clearance_of sign x clearance = grown_by (sign.head.depth -ℤ radicand_size x clearance) clearance

-- the line is as thick as the sign is high, and so is the space above it
unfoldable pub barred : Math → ℤ → ℤ → PackedBox → Result PackedBox MathError
barred m thickness clearance x =
    passed (stored clearance) (λ space. vbox m (kern thickness ∷ line thickness ∷ kern space ∷ box_item (pos 0) x ∷ []))

-- the sign stands before that, shifted so that its top is at the line's
unfoldable pub before_bar : Math → ℤ → PackedBox → ℤ → PackedBox → Result PackedBox MathError
before_bar m shift sign clearance x =
    passed (barred m sign.head.height clearance x) (λ bar. hbox m (box_item shift sign ∷ box_item (pos 0) bar ∷ []))

unfoldable pub rooted : Math → PackedBox → ℤ → PackedBox → Result PackedBox MathError
rooted m sign clearance x = passed (stored (neg_ℤ (x.head.height +ℤ clearance))) (λ shift. before_bar m shift sign clearance x)

abbrev pub behind_sign : Math → ℕ → PackedBox → Sign → Result PackedBox MathError
behind_sign m style x sign = rooted m sign.inner (clearance_of sign.inner x (first_clearance m style)) x

unfoldable pub radical : Math → ℕ → Delimiter → PackedBox → Result PackedBox MathError
radical m style d x = passed (sign_of m style d (sign_size m style x)) (behind_sign m style x)
