-- Large operators (The TeXbook, appendix G, rules 13 and 13a; TeX: The Program, sections 749 to 751).
use Rattle.std.specs.Prelude.{ℕ, Bool, true, false, ℤ, pos, ◌+ℤ◌, ◌-ℤ◌, neg_ℤ, List, [], ◌∷◌, ◌++◌, Option, Some, None, option_and_then, Result, Ok, if◌then◌else◌}
use Rattle.std.specs.Int.{int_max}
use Rattle.std.specs.Option.{option_map_or}
use Rattle.tx_node.specs.declared.character.Character.{Character as CharacterItem}
use Rattle.tx_node.specs.Items.{PackedBox, box_item}
use Rattle.tx_tfm.specs.declared.named.NamedFont.{NamedFont}
use Rattle.tx_tfm.specs.declared.state.FontState.{FontState}
use Rattle.tx_tfm.specs.Fonts.{character_italic, font_at, has_character}
use Rattle.tx_tfm.specs.Metrics.{successor_of}
use Rattle.tx_word.specs.Words.{character_of}
use Rattle.tx_mlist.specs.declared.kinds.Limits.{Limits}
use Rattle.tx_mlist.specs.declared.kinds.Limits.TheVariants.{Displayed, Always, Never}
use Rattle.tx_math.specs.declared.error.MathError.{MathError}
use Rattle.tx_math.specs.declared.operators.Limit.{Limit}
use Rattle.tx_math.specs.declared.operators.Limited.{Limited}
use Rattle.tx_math.specs.Boxes.{framed, kern, reboxed, shifted, stored, with_width}
use Rattle.tx_math.specs.Outcomes.{Telling, and_then, given, passed}
use Rattle.tx_math.specs.Parameters.{Math, axis, big_op_spacing1, big_op_spacing2, big_op_spacing3, big_op_spacing4, big_op_spacing5, half}
use Rattle.tx_math.specs.Styles.{is_display}

-- whether the limits stand above and below the operator in a style
abbrev pub has_limits : Limits → ℕ → Bool
has_limits Displayed style = is_display style
has_limits Always style = true
has_limits Never style = false

-- the larger character that a font has for one, or the same one where it has none
abbrev pub larger_by : List FontState → CharacterItem → Option ℕ → CharacterItem
larger_by fonts c None = c
larger_by fonts c (Some code) = if has_character fonts c.font code then character_of fonts c.font code else c

abbrev pub larger : List FontState → CharacterItem → CharacterItem
larger fonts c = larger_by fonts c (option_and_then (λ (f : NamedFont). successor_of f.font c.code) (font_at fonts c.font))

-- an operator's character, if its font has it; it is larger in display style
abbrev pub in_display : Math → ℕ → Option CharacterItem → Option CharacterItem
in_display m style None = None
in_display m style (Some c) = Some (if is_display style then larger m.fonts c else c)

-- its italic correction; an operator that its font lacks has none
abbrev pub operator_correction : Math → Option CharacterItem → ℤ
operator_correction m found = option_map_or (λ (c : CharacterItem). character_italic m.fonts c.font c.code) found (pos 0)

-- its box is centred about the axis; where a subscript stands behind it, it isn't as wide as with the correction
abbrev pub about_axis : Math → ℕ → PackedBox → ℤ
about_axis m style x = half (x.head.height -ℤ x.head.depth) -ℤ axis m style

abbrev pub narrowed : Bool → ℤ → PackedBox → Result PackedBox MathError
narrowed subscripted correction x = if subscripted then with_width x (x.head.width -ℤ correction) else Ok x

-- the width of the three boxes, the operator and its limits
unfoldable pub widest : PackedBox → PackedBox → PackedBox → ℤ
widest x y z = int_max (int_max y.head.width x.head.width) z.head.width

-- each is centred to this width
unfoldable pub evened : Math → ℤ → PackedBox → PackedBox → PackedBox → Telling Limited
evened m width x y z =
    and_then (reboxed m width x) (λ upper.
    and_then (reboxed m width y) (λ operator.
    and_then (reboxed m width z) (λ lower. given (record { upper = upper; operator = operator; lower = lower }))))

-- the space between an operator and what stands above it, and below it
unfoldable pub above_operator : Math → ℕ → PackedBox → ℤ
above_operator m style x = int_max (big_op_spacing3 m style -ℤ x.head.depth) (big_op_spacing1 m style)

unfoldable pub below_operator : Math → ℕ → PackedBox → ℤ
below_operator m style z = int_max (big_op_spacing4 m style -ℤ z.head.height) (big_op_spacing2 m style)

-- how far a limit of this height and depth reaches with the spaces about it
unfoldable pub reach_of : ℤ → ℤ → ℤ → ℤ → ℤ
reach_of beyond height depth space = beyond +ℤ height +ℤ depth +ℤ space

-- half of the correction moves the limit above to the right, and that below to the left
unfoldable pub moved_right : ℤ → ℤ
moved_right correction = half correction

unfoldable pub moved_left : ℤ → ℤ
moved_left correction = neg_ℤ (moved_right correction)

-- a limit with these spaces, if it is there
abbrev pub no_limit : Limit
no_limit = record { nodes = []; reach = pos 0 }

unfoldable pub upper_from : Math → ℕ → ℤ → ℤ → PackedBox → Result Limit MathError
upper_from m style correction beyond x =
    passed (shifted (moved_right correction) x) (λ item.
    passed (stored (above_operator m style x)) (λ space.
    Ok (record { nodes = kern beyond ∷ item ∷ kern space ∷ []; reach = reach_of beyond x.head.height x.head.depth space })))

unfoldable pub upper_limit : Math → ℕ → ℤ → Bool → PackedBox → Result Limit MathError
upper_limit m style correction is_there x =
    if is_there then passed (stored (big_op_spacing5 m style)) (λ beyond. upper_from m style correction beyond x) else Ok no_limit

unfoldable pub lower_from : Math → ℕ → ℤ → ℤ → PackedBox → Result Limit MathError
lower_from m style correction space z =
    passed (shifted (moved_left correction) z) (λ item.
    passed (stored (big_op_spacing5 m style)) (λ beyond.
    Ok (record { nodes = kern space ∷ item ∷ kern beyond ∷ []; reach = reach_of beyond z.head.height z.head.depth space })))

unfoldable pub lower_limit : Math → ℕ → ℤ → Bool → PackedBox → Result Limit MathError
lower_limit m style correction is_there z =
    if is_there then passed (stored (below_operator m style z)) (λ space. lower_from m style correction space z) else Ok no_limit

-- how high and how deep an operator is with its limits
unfoldable pub limited_height : PackedBox → Limit → ℤ
limited_height y upper = y.head.height +ℤ upper.reach

unfoldable pub limited_depth : PackedBox → Limit → ℤ
limited_depth y lower = y.head.depth +ℤ lower.reach

-- the operator between those limits that are there, in a vertical box whose baseline is the operator's (section 751)
abbrev pub limited_box : ℤ → PackedBox → Limit → Limit → Result PackedBox MathError
limited_box width y upper lower =
    framed width (limited_height y upper) (limited_depth y lower) (upper.nodes ++ box_item (pos 0) y ∷ lower.nodes)

unfoldable pub limits_of : Math → ℕ → ℤ → Bool → Bool → ℤ → Limited → Result PackedBox MathError
limits_of m style correction has_upper has_lower width boxes =
    passed (upper_limit m style correction has_upper boxes.upper) (λ upper.
    passed (lower_limit m style correction has_lower boxes.lower) (λ lower.
    limited_box width boxes.operator upper lower))
