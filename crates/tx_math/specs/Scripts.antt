-- Scripts (The TeXbook, appendix G, rule 18; TeX: The Program, sections 756 to 759).
use Rattle.std.specs.Prelude.{ℕ, ℤ, pos, ◌+ℤ◌, ◌-ℤ◌, ◌*ℤ◌, neg_ℤ, int_lt, List, [], ◌∷◌, Option, Some, None, Result, Ok, if◌then◌else◌}
use Rattle.std.specs.Int.{int_max}
use Rattle.tx_node.specs.Items.{Item, PackedBox, box_item}
use Rattle.tx_math.specs.declared.error.MathError.{MathError}
use Rattle.tx_math.specs.declared.shifts.Shifts.{Shifts}
use Rattle.tx_math.specs.Boxes.{kern, shifted, stored, vbox, with_width}
use Rattle.tx_math.specs.Outcomes.{passed}
use Rattle.tx_math.specs.Parameters.{Math, four_fifths, quarter, rule_thickness, sub1, sub2, sub_drop, sup1, sup2, sup3, sup_drop, x_height}
use Rattle.tx_math.specs.Styles.{is_cramped, is_display, script_size}

-- how far a superscript is raised, and a subscript lowered
abbrev pub shifts_of : ℤ → ℤ → Shifts
shifts_of up down = record { up = up; down = down }

-- at first: not at all behind a character, and by the height and the depth of what else stands before them (section 756)
abbrev pub first_shifts : Math → ℕ → Option (ℤ × ℤ) → Shifts
first_shifts m style None = shifts_of (pos 0) (pos 0)
first_shifts m style (Some edges) = shifts_of (edges.0 -ℤ sup_drop m (script_size style)) (edges.1 +ℤ sub_drop m (script_size style))

-- the box of a script is wider by \scriptspace
abbrev pub spaced_script : Math → PackedBox → Result PackedBox MathError
spaced_script m b = with_width b (b.head.width +ℤ m.params.script_space)

-- how far a subscript alone is lowered: its top is not above four fifths of the x-height (section 757)
unfoldable pub first_lowered : Math → ℕ → ℤ → ℤ
first_lowered m style down = int_max down (sub1 m style)

unfoldable pub below_top : Math → ℕ → PackedBox → ℤ
below_top m style x = x.head.height -ℤ four_fifths (x_height m style)

abbrev pub lowered : Math → ℕ → ℤ → PackedBox → ℤ
lowered m style down x = int_max (first_lowered m style down) (below_top m style x)

-- how far a superscript is raised: its bottom is not below a quarter of the x-height (section 758)
abbrev pub least_raise : Math → ℕ → ℤ
least_raise m style = if is_cramped style then sup3 m style else if is_display style then sup1 m style else sup2 m style

unfoldable pub first_raised : Math → ℕ → ℤ → ℤ
first_raised m style up = int_max up (least_raise m style)

unfoldable pub above_bottom : Math → ℕ → PackedBox → ℤ
above_bottom m style x = x.head.depth +ℤ quarter (x_height m style)

abbrev pub raised : Math → ℕ → ℤ → PackedBox → ℤ
raised m style up x = int_max (first_raised m style up) (above_bottom m style x)

-- the space between the bottom of what is raised and the top of what is lowered
unfoldable pub gap : Shifts → PackedBox → PackedBox → ℤ
gap s x y = (s.up -ℤ x.head.depth) -ℤ (y.head.height -ℤ s.down)

-- a superscript and a subscript are four lines apart at least: the subscript is lowered; and then both are raised so that the
-- superscript's bottom is at four fifths of the x-height at least (section 759)
abbrev pub both_raised : ℤ → Shifts → Shifts
both_raised by s = if int_lt (pos 0) by then shifts_of (s.up +ℤ by) (s.down -ℤ by) else s

abbrev pub set_apart : Math → ℕ → PackedBox → ℤ → Shifts → Shifts
set_apart m style x lacking s =
    if int_lt (pos 0) lacking
    then both_raised (four_fifths (x_height m style) -ℤ (s.up -ℤ x.head.depth)) (shifts_of s.up (s.down +ℤ lacking))
    else s

abbrev pub both_shifts : Math → ℕ → Shifts → PackedBox → PackedBox → Shifts
both_shifts m style s x y = set_apart m style x (pos 4 *ℤ rule_thickness m style -ℤ gap s x y) s

-- a subscript alone, and a superscript alone
unfoldable pub subscript_item : Math → ℕ → Shifts → PackedBox → Result Item MathError
subscript_item m style s x = shifted (lowered m style s.down x) x

unfoldable pub superscript_item : Math → ℕ → Shifts → PackedBox → Result Item MathError
superscript_item m style s x = shifted (neg_ℤ (raised m style s.up x)) x

-- both, one below the other, the upper one further to the right by so much
unfoldable pub stack_list : ℤ → Shifts → PackedBox → PackedBox → Result (List Item) MathError
stack_list offset s x y =
    passed (shifted offset x) (λ upper. passed (stored (gap s x y)) (λ space. Ok (upper ∷ kern space ∷ box_item (pos 0) y ∷ [])))

unfoldable pub stack_box : Math → ℤ → Shifts → PackedBox → PackedBox → Result PackedBox MathError
stack_box m offset s x y = passed (stack_list offset s x y) (vbox m)

unfoldable pub stacked : Math → ℤ → Shifts → PackedBox → PackedBox → Result Item MathError
stacked m offset s x y = passed (stack_box m offset s x y) (shifted s.down)

unfoldable pub script_shifts : Math → ℕ → Shifts → PackedBox → PackedBox → Shifts
script_shifts m style s x y = both_shifts m style (shifts_of (raised m style s.up x) (int_max s.down (sub2 m style))) x y

unfoldable pub scripts_item : Math → ℕ → ℤ → Shifts → PackedBox → PackedBox → Result Item MathError
scripts_item m style offset s x y =
    stacked m offset (script_shifts m style s x y) x y
