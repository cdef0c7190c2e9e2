use Rattle.tx_quiesce.specs.Moves.{reads_by, CanMoveReads}
use Rattle.tx_quiesce.proofs.Carrying.{Carrying}
use Rattle.tx_quiesce.proofs.moving.relocate_reads.Given as goal

abbrev pub invariant-loop-at : goal.invariant-loop-at
invariant-loop-at l = Carrying reads_by CanMoveReads l.changes l.initial.seen l.seen l.at
