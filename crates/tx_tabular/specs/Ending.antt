-- Alignments end (TeX: The Program, sections 800 to 812).
use Rattle.std.specs.Prelude.{◌≡◌, ℕ, List, [], ◌∷◌, Option, None, Some, Result, Ok, Err, if◌then◌else◌}
use Rattle.tx_align.specs.declared.aligned.Aligned.{Aligned}
use Rattle.tx_align.specs.declared.error.AlignError.{AlignError}
use Rattle.tx_align.specs.declared.error.AlignError.TheVariants.{MisplacedAlignment, SizeOutOfRange}
use Rattle.tx_align.specs.declared.row_item.RowItem.TheVariants as row
use Rattle.tx_align.specs.Aligned.{finished}
use Rattle.tx_box.specs.declared.parts.Lists.{Lists}
use Rattle.tx_box.specs.Building.{goal_of, size_in}
use Rattle.tx_box.specs.Placing.{with_list}
use Rattle.tx_nest.specs.declared.list.ModeList.{ModeList}
use Rattle.tx_nest.specs.declared.nest.Nest.{Nest}
use Rattle.tx_nest.specs.declared.state.ModeState.{ModeState}
use Rattle.tx_nest.specs.Changed.{with_items}
use Rattle.tx_nest.specs.States.{prev_depth}
use Rattle.tx_node.specs.Items.{Item}
use Rattle.tx_pack.specs.declared.types.Goal.{Goal}
use Rattle.tx_pack.specs.declared.types.PackParams.{PackParams}
use Rattle.tx_num.specs.Limits.{fits}
use Rattle.tx_tabular.specs.declared.alignment.Alignment.{Alignment}
use Rattle.tx_tabular.specs.Lists.{between, from_depth}
use Rattle.tx_tabular.specs.Rows.{pushing}

-- the list that ends, what it keeps beside, and those that go on
pub record Closed : Type 0 where
  pub state : ModeState
  pub list : List Item
  pub nest : Nest

abbrev pub closed_in : ModeList → List ModeList → Option Closed
closed_in ended [] = None
closed_in ended (outer ∷ around) = Some (record { state = ended.state; list = ended.nodes; nest = record { innermost = outer; around = around } })

abbrev pub closed_nest : Nest → Option Closed
closed_nest nest = closed_in nest.innermost nest.around

-- the same in code
abbrev pub IsClosed : Option Closed → Option (ModeState × List Item) → Nest → Type 0
IsClosed None found left = found ≡ None
IsClosed (Some closed) found left = (found ≡ Some (closed.state, closed.list)) × (left ≡ closed.nest)

-- the rows are set by the preamble, if the size that this is set to is a dimension
abbrev pub set_rows : Alignment → Goal → PackParams → Result Aligned AlignError
set_rows a goal params = finished a.preamble a.rows goal params

abbrev pub aligned : Alignment → PackParams → Result Aligned AlignError
aligned a params = if fits (size_in (goal_of a.goal)) then set_rows a (goal_of a.goal) params else Err SizeOutOfRange

-- they stand in the list around, whose \prevdepth is that of the alignment's list; \badness is how bad the preamble's box is
abbrev pub standing : Lists → ModeState → Aligned → Lists
standing lists state made =
    record (with_list lists (from_depth (with_items lists.nest.innermost made.nodes) (prev_depth state))) { badness = made.badness }

-- the lists behind it, and what the transcript gets
pub record Finished : Type 0 where
  pub lists : Lists
  pub report : List ℕ

abbrev pub finished_in : Lists → ModeState → Result Aligned AlignError → Result Finished AlignError
finished_in lists state (Err error) = Err error
finished_in lists state (Ok made) = Ok (record { lists = standing lists state made; report = made.report })

abbrev pub with_rest : PackParams → Lists → ModeState → Result Alignment AlignError → Result Finished AlignError
with_rest params lists state (Err error) = Err error
with_rest params lists state (Ok a) = finished_in lists state (aligned a params)

-- what stood behind the last row is kept, and then it is set
abbrev pub finishing_by : PackParams → Lists → Alignment → Option Closed → Result Finished AlignError
finishing_by params lists a None = Err MisplacedAlignment
finishing_by params lists a (Some closed) =
    with_rest params (record lists { nest = closed.nest }) closed.state (pushing a (row.NoAlign (between a.behind_row closed.list)))

abbrev pub finishing : PackParams → Lists → Alignment → Result Finished AlignError
finishing params lists a = finishing_by params lists a (closed_nest lists.nest)
