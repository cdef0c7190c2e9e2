-- What stands in the vertical list of a display: glue and penalties, and its lines with their leading (TeX: The Program, sections 1203 to
-- 1205).
use Rattle.std.specs.Prelude.{Bool, ℤ, pos, ◌+ℤ◌, ◌-ℤ◌, List, [], ◌∷◌, is_some, Option, Some, None, Result, Ok, if◌then◌else◌}
use Rattle.tx_nest.specs.declared.leading.LeadingParams.{LeadingParams}
use Rattle.tx_nest.specs.declared.list.ModeList.{ModeList}
use Rattle.tx_nest.specs.Appended.{box_appended}
use Rattle.tx_nest.specs.Changed.{with_items}
use Rattle.tx_node.specs.declared.plain.Plain.TheVariants.{Glue, Penalty}
use Rattle.tx_node.specs.Items.{Item, PackedBox, plain}
use Rattle.tx_num.specs.Glue.{GlueSpec}
use Rattle.tx_display.specs.declared.arranged.Arranged.{Arranged}
use Rattle.tx_display.specs.declared.error.DisplayError.{DisplayError}
use Rattle.tx_display.specs.declared.types.DisplayParams.{DisplayParams}
use Rattle.tx_display.specs.Errors.{led, passed}
use Rattle.tx_display.specs.Sizes.{stored}

-- a penalty, and glue, at the end of the list
abbrev pub with_penalty : ModeList → ℤ → ModeList
with_penalty list n = with_items list (plain (Penalty n) ∷ [])

abbrev pub with_glue : ModeList → GlueSpec → ModeList
with_glue list g = with_items list (plain (Glue g) ∷ [])

-- a box that is shifted by so much, behind its leading
unfoldable pub box_put : LeadingParams → ModeList → ℤ → PackedBox → Result ModeList DisplayError
box_put leading list shift b = passed (stored shift) (λ by. led (box_appended leading list by b))

-- above the formula: its number, behind which no page is broken, or else glue
unfoldable pub number_above : DisplayParams → ModeList → PackedBox → Result ModeList DisplayError
number_above params list number =
    passed (box_put params.leading list params.place.indent number) (λ put. Ok (with_penalty put (pos 10000)))

abbrev pub above_glue : DisplayParams → Bool → GlueSpec
above_glue params close = if close then params.above_skip else params.above_short_skip

unfoldable pub above_by : DisplayParams → Bool → Option PackedBox → ModeList → Result ModeList DisplayError
above_by params close None list = Ok (with_glue list (above_glue params close))
above_by params close (Some number) list = number_above params list number

unfoldable pub above : DisplayParams → Bool → Option PackedBox → ModeList → Result ModeList DisplayError
above params close number list = above_by params close number (with_penalty list params.pre_penalty)

-- below it: its number, before which no page is broken, at the right edge of the line
unfoldable pub shift_below : DisplayParams → PackedBox → ℤ
shift_below params number = params.place.indent +ℤ params.place.width -ℤ number.head.width

unfoldable pub number_below : DisplayParams → PackedBox → ModeList → Result ModeList DisplayError
number_below params number list = box_put params.leading (with_penalty list (pos 10000)) (shift_below params number) number

unfoldable pub below : DisplayParams → Option PackedBox → ModeList → Result ModeList DisplayError
below params None list = Ok list
below params (Some number) list = number_below params number list

-- the line of the formula, and what stands below it
unfoldable pub line_and_below : DisplayParams → ℤ → PackedBox → Option PackedBox → ModeList → Result ModeList DisplayError
line_and_below params shift line number list = passed (box_put params.leading list shift line) (below params number)

-- last what left the formula's box, \postdisplaypenalty, and glue, unless a number stands below
abbrev pub below_glue : DisplayParams → Bool → GlueSpec
below_glue params close = if close then params.below_skip else params.below_short_skip

abbrev pub closed_if : DisplayParams → Bool → Bool → ModeList → ModeList
closed_if params close numbered list = if numbered then list else with_glue list (below_glue params close)

unfoldable pub closed : DisplayParams → Bool → Bool → List Item → ModeList → ModeList
closed params close numbered behind list = closed_if params close numbered (with_penalty (with_items list behind) params.post_penalty)

-- all of it, where this stands above
unfoldable pub from_line : DisplayParams → Bool → ℤ → PackedBox → Option PackedBox → List Item → ModeList → Result ModeList DisplayError
from_line params close shift line number behind list =
    passed (line_and_below params shift line number list) (λ put. Ok (closed params close (is_some number) behind put))

unfoldable pub appended : DisplayParams → Arranged → List Item → ModeList → Result ModeList DisplayError
appended params a behind list =
    passed (above params a.close a.above list) (from_line params a.close a.shift a.line a.below behind)
