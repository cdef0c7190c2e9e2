-- What a command of boxes answers, taken over by the state (TeX: The Program, part 47).
use Rattle.std.specs.Prelude.{ℕ, List, [], ◌∷◌, Option, Some, None, Ok, Err}
use Rattle.tx_box.specs.declared.parts.Work.{Work}
use Rattle.tx_box.specs.Building.{Ended}
use Rattle.tx_box.specs.Effects.{Effect, Left}
use Rattle.tx_command.specs.declared.types.Head.TheVariants.{LeadingBox}
use Rattle.tx_nest.specs.States.{mode_of}
use Rattle.tx_node.specs.Items.{PackedBox}
use Rattle.tx_parts.specs.declared.parts.Due.{Due}
use Rattle.tx_parts.specs.declared.parts.Due.TheVariants.{Boxes}
use Rattle.tx_prim.specs.declared.family.LeadersKind.{LeadersKind}
use Rattle.tx_state.specs.State.{TexState}
use Rattle.tx_state.specs.Outcomes.{Outcome, Leaves, Fails}

-- a command of boxes: the lists and the table are those that it leaves, work that it leaves is due, and the next command stands in
-- the mode of the list that is being built then
abbrev pub with_work : Option Work → List Due → List Due
with_work None due = due
with_work (Some work) due = Boxes work ∷ due

abbrev pub carrying : TexState → Left → TexState
carrying s left = record s {
  due = with_work left.due s.due;
  mode = mode_of left.lists.nest.innermost.state;
  taken = [];
  lists = left.lists;
  table = left.table;
}

-- glue is to follow the leaders whose box was made (section 1078)
abbrev pub led : Option (LeadersKind × PackedBox) → TexState → TexState
led None s = s
led (Some (kind, b)) s = record s { head = LeadingBox kind b }

-- that, or an error, behind what the transcript gets
abbrev pub carried_telling : TexState → List ℕ → Effect → Outcome
carried_telling s report (Err error) = Fails error report
carried_telling s report (Ok left) = Leaves (led left.leads (carrying s left)) report

abbrev pub carried : TexState → Effect → Outcome
carried s effect = carried_telling s [] effect

-- the transcript gets what is reported of a box also where that can't go where it is to go
abbrev pub boxed : TexState → Ended → Outcome
boxed s ended = carried_telling s ended.report ended.effect
