use Rattle.std.proofs.Common.{◌≡◌}
use Rattle.tx_quiesce.specs.Shift.{shifted_file}
use Rattle.tx_quiesce.proofs.Fitting.{mapped_to}
use Rattle.tx_quiesce.proofs.moving.shift_opens.Given as goal

abbrev pub invariant-loop-at : goal.invariant-loop-at
invariant-loop-at l = l.opens ≡ mapped_to (shifted_file l.e) l.at l.initial.opens
