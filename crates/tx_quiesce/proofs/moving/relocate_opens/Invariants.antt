use Rattle.tx_quiesce.specs.Moves.{opens_by, CanMoveOpens}
use Rattle.tx_quiesce.proofs.Carrying.{Carrying}
use Rattle.tx_quiesce.proofs.moving.relocate_opens.Given as goal

abbrev pub invariant-loop-at : goal.invariant-loop-at
invariant-loop-at l = Carrying opens_by CanMoveOpens l.changes l.initial.opens l.opens l.at
