use Rattle.std.proofs.Common.{◌≡◌}
use Rattle.tx_delim.specs.Fitting.{fitting_within}
use Rattle.tx_delim.proofs.fitting.widest_fitting.Given as goal

abbrev pub invariant-loop-left : goal.invariant-loop-left
invariant-loop-left l = fitting_within l.left l.fonts l.width l.font l.code ≡ fitting_within 256 l.fonts l.width l.font l.fn.code

abbrev pub decreases-loop-left : goal.decreases-loop-left
decreases-loop-left l = l.left
