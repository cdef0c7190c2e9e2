-- Packing a list to a size (TeX: The Program, sections 649 and 668).
use Rattle.std.specs.Prelude.{suc, nat_le, ℤ, ◌+ℤ◌, ◌-ℤ◌, pos, int_lt, List, Option, Some, None, Result, Ok, Err, if◌then◌else◌}
use Rattle.std.specs.Option.{option_and_then}
use Rattle.tx_num.specs.Glue.{IsDimension}
use Rattle.tx_node.specs.declared.head.BoxHead.{BoxHead}
use Rattle.tx_node.specs.declared.head.Direction.{Direction}
use Rattle.tx_node.specs.declared.head.Direction.TheVariants.{Horizontal, Vertical}
use Rattle.tx_node.specs.Items.{Item, items_of}
use Rattle.tx_node.specs.Counts.{nesting_of}
use Rattle.tx_pack.specs.declared.sums.Sums.{Sums}
use Rattle.tx_pack.specs.declared.types.Extent.{Extent}
use Rattle.tx_pack.specs.declared.types.Goal.{Goal}
use Rattle.tx_pack.specs.declared.types.Goal.TheVariants.{Natural, To, Spread}
use Rattle.tx_pack.specs.declared.types.PackParams.{PackParams}
use Rattle.tx_pack.specs.declared.types.Packed.{Packed}
use Rattle.tx_pack.specs.declared.types.PackError.{PackError}
use Rattle.tx_pack.specs.declared.types.PackError.TheVariants.{SizeOutOfRange, TooDeep}
use Rattle.tx_pack.specs.declared.verdicts.Verdict.{Verdict}
use Rattle.tx_num.specs.Limits.{fits}
use Rattle.tx_pack.specs.Sums.{sums_of}
use Rattle.tx_pack.specs.Stretching.{setting_for}
use Rattle.tx_pack.specs.Verdicts.{verdict_of, end_rule, ended_by, report_of}

-- the natural size of a list along its direction
abbrev pub along : Direction → Sums → ℤ
along Horizontal sums = sums.width
along Vertical sums = sums.height

-- a size, None where it is no dimension
abbrev pub if_fits : ℤ → Option ℤ
if_fits size = if fits size then Some size else None

-- the size that a list is packed to, whose natural size is given
abbrev pub size_of : Goal → ℤ → Option ℤ
size_of Natural natural = Some natural
size_of (To size) natural = Some size
size_of (Spread more) natural = if_fits (natural +ℤ more)

-- a goal whose size is a dimension
abbrev pub IsGoal : Goal → Type 0
IsGoal Natural = Unit {0}
IsGoal (To size) = IsDimension size
IsGoal (Spread more) = IsDimension more

-- depth of a vertical list beyond the greatest goes into its height
abbrev pub raised : ℤ → Sums → Option ℤ → Option Sums
raised most sums None = None
raised most sums (Some height) = Some (record sums { height = height; depth = most })

abbrev pub with_depth : ℤ → Sums → Option Sums
with_depth most sums = if int_lt most sums.depth then raised most sums (if_fits (sums.height +ℤ sums.depth -ℤ most)) else Some sums

-- the head of a box of this size
abbrev pub head_of : Direction → Sums → ℤ → BoxHead
head_of Horizontal sums size = record { direction = Horizontal; width = size; height = sums.height; depth = sums.depth; setting = setting_for sums (size -ℤ sums.width) }
head_of Vertical sums size = record { direction = Vertical; width = sums.width; height = size; depth = sums.depth; setting = setting_for sums (size -ℤ sums.height) }

-- the list in a box of this size, and what is said of that
abbrev pub packed_as : Direction → List Item → PackParams → BoxHead → Verdict → Packed
packed_as direction list params head verdict = record {
  node = record { head = head; list = ended_by list (end_rule direction params verdict.told) };
  badness = pos verdict.badness;
  report = report_of direction verdict.told;
}

unfoldable pub packed : Direction → List Item → PackParams → Sums → ℤ → Packed
packed direction list params sums size =
    packed_as direction list params (head_of direction sums size) (verdict_of params list sums (size -ℤ along direction sums))

-- a size that is no dimension is found before boxes that nest too deep
abbrev pub packed_to : Direction → List Item → PackParams → Sums → Option ℤ → Result Packed PackError
packed_to direction list params sums None = Err SizeOutOfRange
packed_to direction list params sums (Some size) = if nat_le (suc (nesting_of (items_of list))) 500 then Ok (packed direction list params sums size) else Err TooDeep

abbrev pub packing : Direction → List Item → Goal → PackParams → Option Sums → Result Packed PackError
packing direction list goal params None = Err SizeOutOfRange
packing direction list goal params (Some sums) = packed_to direction list params sums (size_of goal (along direction sums))

-- the box of a horizontal list
abbrev pub hpacked : List Item → Goal → PackParams → Result Packed PackError
hpacked list goal params = packing Horizontal list goal params (sums_of Horizontal list)

-- the box of a vertical list, at most so deep
abbrev pub vpacked : List Item → Goal → ℤ → PackParams → Result Packed PackError
vpacked list goal most params = packing Vertical list goal params (option_and_then (with_depth most) (sums_of Vertical list))

-- how high and how deep the box of a horizontal list is (section 796)
abbrev pub extent_by : List Item → Option Sums → Result Extent PackError
extent_by list None = Err SizeOutOfRange
extent_by list (Some sums) = if nat_le (suc (nesting_of (items_of list))) 500 then Ok (record { height = sums.height; depth = sums.depth }) else Err TooDeep

abbrev pub extent_of : List Item → Result Extent PackError
extent_of list = extent_by list (sums_of Horizontal list)
