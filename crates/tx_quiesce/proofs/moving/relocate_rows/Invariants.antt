use Rattle.std.proofs.Common.{◌≡◌}
use Rattle.tx_quiesce.specs.Moves.{carried_row}
use Rattle.tx_quiesce.proofs.Fitting.{mapped_to}
use Rattle.tx_quiesce.proofs.moving.relocate_rows.Given as goal

abbrev pub invariant-loop-at : goal.invariant-loop-at
invariant-loop-at g l = l.rows ≡ mapped_to (carried_row l.changes) l.at l.initial.rows
