-- How the box of a display's formula fits the line, with its number beside it or not (TeX: The Program, sections 1199, 1201 and 1202).
use Rattle.std.specs.Prelude.{Bool, true, false, ◌&&◌, ◌||◌, ℤ, pos, ◌+ℤ◌, ◌-ℤ◌, int_lt, int_le, is_some, List, [], ◌∷◌, Option, Some, None, Result, Ok, Err, if◌then◌else◌}
use Rattle.tx_node.specs.declared.head.Direction.TheVariants.{Horizontal}
use Rattle.tx_node.specs.Items.{Item, PackedBox}
use Rattle.tx_node.specs.Sizes.{glue_of_item}
use Rattle.tx_num.specs.Limits.{fits}
use Rattle.tx_pack.specs.declared.sums.Orders.{Orders}
use Rattle.tx_pack.specs.declared.sums.Sums.{Sums}
use Rattle.tx_pack.specs.declared.types.Goal.TheVariants.{Natural, To}
use Rattle.tx_pack.specs.declared.types.Packed.{Packed}
use Rattle.tx_pack.specs.declared.types.PackError.{PackError}
use Rattle.tx_pack.specs.declared.types.PackError.TheVariants as packing
use Rattle.tx_pack.specs.declared.types.PackParams.{PackParams}
use Rattle.tx_pack.specs.Packing.{hpacked}
use Rattle.tx_pack.specs.Stretching.{is_nothing}
use Rattle.tx_pack.specs.Sums.{sums_of}
use Rattle.tx_prim.specs.declared.family.NumberSide.{NumberSide}
use Rattle.tx_prim.specs.declared.family.NumberSide.TheVariants.{Right, Left}
use Rattle.tx_display.specs.declared.error.DisplayError.{DisplayError}
use Rattle.tx_display.specs.declared.fitted.Fitted.{Fitted}
use Rattle.tx_display.specs.declared.types.DisplayParams.{DisplayParams}
use Rattle.tx_display.specs.declared.types.EquationNumber.{EquationNumber}
use Rattle.tx_display.specs.Errors.{packed, passed}
use Rattle.tx_display.specs.Sizes.{half}

-- how wide the number's box is, nothing without one
abbrev pub number_width : Option EquationNumber → ℤ
number_width None = pos 0
number_width (Some number) = number.packed.head.width

-- what it takes beside the formula: the symbol font's quad stands between them
unfoldable pub taken_beside : ℤ → ℤ → ℤ
taken_beside beside quad = if is_nothing beside then pos 0 else beside +ℤ quad

-- what of the line this leaves, and whether the formula is wider than that
unfoldable pub room_of : DisplayParams → ℤ → ℤ
room_of params beside = params.place.width -ℤ taken_beside beside params.quad

unfoldable pub is_wider : DisplayParams → ℤ → ℤ → Bool
is_wider params beside own = int_lt params.place.width (own +ℤ taken_beside beside params.quad)

-- a list in a box that is to be so wide
abbrev pub packed_to : PackParams → ℤ → List Item → Result Packed PackError
packed_to params size list = if fits size then hpacked list (To size) params else Err packing.SizeOutOfRange

-- the formula is packed to this size, with so much beside it
unfoldable pub repacked : PackParams → ℤ → ℤ → Packed → Result Fitted DisplayError
repacked params beside size made =
    passed (packed (packed_to params size made.node.list)) (λ anew. Ok (record { made = anew; beside = beside }))

-- whether a list can be made so narrow: its shrink of normal order is enough, or it is infinite
abbrev pub is_finite : Orders → Bool
is_finite shrink = is_nothing shrink.fil && (is_nothing shrink.fill && is_nothing shrink.filll)

abbrev pub narrows_to : ℤ → Sums → Bool
narrows_to room sums = if is_finite sums.shrink then int_le (sums.width -ℤ sums.shrink.normal) room else true

abbrev pub narrows_by : ℤ → Option Sums → Bool
narrows_by room None = false
narrows_by room (Some sums) = narrows_to room sums

unfoldable pub shrinks_to : ℤ → List Item → Bool
shrinks_to room list = narrows_by room (sums_of Horizontal list)

-- it is made so only for what is beside it
unfoldable pub yields : ℤ → ℤ → List Item → Bool
yields beside room list = if is_nothing beside then false else shrinks_to room list

-- nothing stands beside the formula, and it takes the whole line if it is wider
unfoldable pub alone : DisplayParams → Packed → Result Fitted DisplayError
alone params made =
    if int_lt params.place.width made.node.head.width then repacked params.packing (pos 0) params.place.width made
    else Ok (record { made = made; beside = pos 0 })

-- both are wider than the line: the formula shrinks to the room that is left, if it can, or else the number stands on a line of its own
-- (section 1201)
unfoldable pub squeezed_by : DisplayParams → ℤ → ℤ → Bool → Packed → Result Fitted DisplayError
squeezed_by params beside room narrows made = if narrows then repacked params.packing beside room made else alone params made

unfoldable pub squeezed : DisplayParams → ℤ → Packed → Result Fitted DisplayError
squeezed params beside made =
    squeezed_by params beside (room_of params beside) (yields beside (room_of params beside) made.node.list) made

unfoldable pub fitted : DisplayParams → ℤ → Packed → Result Fitted DisplayError
fitted params beside made =
    if is_wider params beside made.node.head.width then squeezed params beside made else Ok (record { made = made; beside = beside })

-- the list of a formula, first in a box of its natural size
unfoldable pub fitting : DisplayParams → ℤ → List Item → Result Fitted DisplayError
fitting params beside list = passed (packed (hpacked list Natural params.packing)) (fitted params beside)

-- how far the formula stands to the right in its line: in the middle, as if there were no number, unless that would be too near; then in
-- the middle of what the number leaves, or at the left where it begins with glue (section 1202)
abbrev pub begins_with_glue : List Item → Bool
begins_with_glue [] = false
begins_with_glue (item ∷ rest) = is_some (glue_of_item item)

unfoldable pub centred : ℤ → ℤ → ℤ
centred width own = half (width -ℤ own)

unfoldable pub is_near : ℤ → ℤ → Bool
is_near beside left = int_lt (pos 0) beside && int_lt left (beside +ℤ beside)

unfoldable pub left_before : ℤ → ℤ → ℤ → Bool → ℤ
left_before width own beside glue = if glue then pos 0 else half (width -ℤ own -ℤ beside)

unfoldable pub middle : ℤ → ℤ → ℤ → Bool → ℤ
middle width own beside glue =
    if is_near beside (centred width own) then left_before width own beside glue else centred width own

unfoldable pub left_of : DisplayParams → ℤ → PackedBox → ℤ
left_of params beside b = middle params.place.width b.head.width beside (begins_with_glue b.list)

-- whether the line before reaches over it, so far to the right; behind \leqno it counts so always (section 1203)
abbrev pub is_left_side : NumberSide → Bool
is_left_side Right = false
is_left_side Left = true

abbrev pub is_left : Option EquationNumber → Bool
is_left None = false
is_left (Some number) = is_left_side number.side

unfoldable pub is_close : DisplayParams → Bool → ℤ → Bool
is_close params at_left left = at_left || int_le (left +ℤ params.place.indent) params.place.size
