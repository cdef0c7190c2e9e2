use Rattle.std.proofs.Common.{◌≡◌, drop}
use Rattle.tx_quiesce.specs.Meeting.{opens_fit}
use Rattle.tx_quiesce.proofs.meeting.opens_fit.Given as goal

abbrev pub invariant-loop-at : goal.invariant-loop-at
invariant-loop-at l = opens_fit l.changes (drop l.at l.old) (drop l.at l.new) ≡ opens_fit l.changes l.old l.new
