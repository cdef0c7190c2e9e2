-- Fractions (The TeXbook, appendix G, rule 15; TeX: The Program, sections 743 to 748).
use Rattle.std.specs.Prelude.{ℕ, ℤ, pos, ◌+ℤ◌, ◌-ℤ◌, ◌*ℤ◌, int_lt, List, [], ◌∷◌, Option, unwrap_or, Result, Ok, if◌then◌else◌}
use Rattle.std.specs.Int.{int_max}
use Rattle.tx_node.specs.Items.{Item, PackedBox, box_item}
use Rattle.tx_pack.specs.Stretching.{is_nothing}
use Rattle.tx_mlist.specs.declared.kinds.Delimiter.{Delimiter}
use Rattle.tx_mlist.specs.declared.kinds.FractionHead.{FractionHead}
use Rattle.tx_math.specs.declared.error.MathError.{MathError}
use Rattle.tx_math.specs.declared.shifts.Shifts.{Shifts}
use Rattle.tx_math.specs.Boxes.{framed, hbox, kern, line, reboxed, stored}
use Rattle.tx_math.specs.Delimiters.{delimiter_item}
use Rattle.tx_math.specs.Outcomes.{Telling, and_then, given, passed}
use Rattle.tx_math.specs.Parameters.{Math, axis, delim1, delim2, denom1, denom2, half, num1, num2, num3, rule_thickness}
use Rattle.tx_math.specs.Scripts.{gap, shifts_of}
use Rattle.tx_math.specs.Styles.{is_display}

-- how thick the line is: as it is told, and as lines are for \over
abbrev pub thickness_of : Math → ℕ → Option ℤ → ℤ
thickness_of m style told = unwrap_or told (rule_thickness m style)

-- the numerator and the denominator, the narrower of which is centred to the width of the other (section 744)
unfoldable pub even_boxes : Math → PackedBox → PackedBox → Telling (PackedBox × PackedBox)
even_boxes m x z =
    if int_lt x.head.width z.head.width
    then and_then (reboxed m z.head.width x) (λ wide. given (wide, z))
    else and_then (reboxed m x.head.width z) (λ wide. given (x, wide))

-- how far the one is raised and the other lowered, at first
abbrev pub first_raise : Math → ℕ → ℤ → ℤ
first_raise m style thickness = if is_display style then num1 m style else if is_nothing thickness then num3 m style else num2 m style

abbrev pub first_lowering : Math → ℕ → ℤ
first_lowering m style = if is_display style then denom1 m style else denom2 m style

-- without a line both are moved until they are apart by seven lines in display style, and by three in others (section 745)
abbrev pub apart : Math → ℕ → ℤ
apart m style = if is_display style then pos 7 *ℤ rule_thickness m style else pos 3 *ℤ rule_thickness m style

abbrev pub moved_by : ℤ → Shifts → Shifts
moved_by by s = if int_lt (pos 0) by then shifts_of (s.up +ℤ by) (s.down +ℤ by) else s

abbrev pub lineless_shifts : Math → ℕ → PackedBox → PackedBox → Shifts → Shifts
lineless_shifts m style x z s = moved_by (half (apart m style -ℤ gap s x z)) s

-- with a line each is moved until it is so far from that as three lines of this thickness in display style, and as one in others; the
-- space above the line, and that below it, as far as they are without it (section 746)
abbrev pub clearance : ℕ → ℤ → ℤ
clearance style thickness = if is_display style then pos 3 *ℤ thickness else thickness

unfoldable pub space_above : Math → ℕ → ℤ → PackedBox → ℤ → ℤ
space_above m style thickness x up = (up -ℤ x.head.depth) -ℤ (axis m style +ℤ half thickness)

unfoldable pub space_below : Math → ℕ → ℤ → PackedBox → ℤ → ℤ
space_below m style thickness z down = (axis m style -ℤ half thickness) -ℤ (z.head.height -ℤ down)

abbrev pub grown : ℤ → ℤ → ℤ
grown size lacking = size +ℤ int_max (pos 0) lacking

abbrev pub raised_off : Math → ℕ → ℤ → PackedBox → ℤ → ℤ
raised_off m style thickness x up = grown up (clearance style thickness -ℤ space_above m style thickness x up)

abbrev pub lowered_off : Math → ℕ → ℤ → PackedBox → ℤ → ℤ
lowered_off m style thickness z down = grown down (clearance style thickness -ℤ space_below m style thickness z down)

abbrev pub lined_shifts : Math → ℕ → ℤ → PackedBox → PackedBox → Shifts → Shifts
lined_shifts m style thickness x z s = shifts_of (raised_off m style thickness x s.up) (lowered_off m style thickness z s.down)

abbrev pub fraction_shifts : Math → ℕ → ℤ → PackedBox → PackedBox → Shifts
fraction_shifts m style thickness x z =
    if is_nothing thickness
    then lineless_shifts m style x z (shifts_of (first_raise m style thickness) (first_lowering m style))
    else lined_shifts m style thickness x z (shifts_of (first_raise m style thickness) (first_lowering m style))

-- what stands in the fraction's box, from the top (section 747)
abbrev pub lineless_list : Shifts → PackedBox → PackedBox → Result (List Item) MathError
lineless_list s x z = passed (stored (gap s x z)) (λ space. Ok (box_item (pos 0) x ∷ kern space ∷ box_item (pos 0) z ∷ []))

unfoldable pub list_by_line : Math → ℕ → ℤ → Shifts → PackedBox → PackedBox → Result (List Item) MathError
list_by_line m style t s x z =
    passed (stored (space_below m style t z s.down)) (λ below.
    passed (stored (space_above m style t x s.up)) (λ above.
    Ok (box_item (pos 0) x ∷ kern above ∷ line t ∷ kern below ∷ box_item (pos 0) z ∷ [])))

abbrev pub lined_list : Math → ℕ → ℤ → Shifts → PackedBox → PackedBox → Result (List Item) MathError
lined_list m style thickness s x z = passed (stored thickness) (λ t. list_by_line m style t s x z)

unfoldable pub fraction_list : Math → ℕ → ℤ → Shifts → PackedBox → PackedBox → Result (List Item) MathError
fraction_list m style thickness s x z = if is_nothing thickness then lineless_list s x z else lined_list m style thickness s x z

unfoldable pub fraction_height : Shifts → PackedBox → ℤ
fraction_height s x = s.up +ℤ x.head.height

unfoldable pub fraction_depth : Shifts → PackedBox → ℤ
fraction_depth s z = z.head.depth +ℤ s.down

unfoldable pub fraction_box : Math → ℕ → ℤ → Shifts → PackedBox → PackedBox → Result PackedBox MathError
fraction_box m style thickness s x z =
    passed (fraction_list m style thickness s x z) (framed x.head.width (fraction_height s x) (fraction_depth s z))

-- delimiters stand on both sides, which are as tall as the symbol font asks; where none is told they are empty boxes (section 748)
abbrev pub delimiter_size : Math → ℕ → ℤ
delimiter_size m style = if is_display style then delim1 m style else delim2 m style

unfoldable pub before_right : Math → ℕ → ℤ → Delimiter → PackedBox → Item → Result PackedBox MathError
before_right m style size d v left =
    passed (delimiter_item m style d size) (λ right. hbox m (left ∷ box_item (pos 0) v ∷ right ∷ []))

unfoldable pub between_delimiters : Math → ℕ → FractionHead → PackedBox → Result PackedBox MathError
between_delimiters m style head v =
    passed (delimiter_item m style head.left (delimiter_size m style)) (λ left.
    before_right m style (delimiter_size m style) head.right v left)

unfoldable pub fraction_of : Math → ℕ → ℤ → FractionHead → PackedBox → PackedBox → Result PackedBox MathError
fraction_of m style thickness head x z =
    passed (fraction_box m style thickness (fraction_shifts m style thickness x z) x z) (between_delimiters m style head)
