use Rattle.tx_machine.specs.Turn.{place_of}
use Rattle.tx_machine.proofs.Going.{Going}
use Rattle.tx_machine.proofs.turn.format_page.Given as goal

abbrev pub invariant-loop-passed : goal.invariant-loop-passed
invariant-loop-passed g l =
    Going g.M.Machine.formatter l.files (place_of g.M.Machine.meaning l.initial.spot) (place_of g.M.Machine.meaning l.spot) (g.M.Machine.pending l.spot.state) l.turns l.initial.seen l.seen l.initial.steps l.steps

abbrev pub decreases-loop-passed : goal.decreases-loop-passed
decreases-loop-passed g l = l.spot.left
