use Rattle.std.proofs.Common.{◌≡◌, ◌+◌, drop}
use Rattle.tx_differing.specs.Differing.{common}
use Rattle.tx_differing.proofs.part.common.Given as goal

abbrev pub invariant-loop-at : goal.invariant-loop-at
invariant-loop-at l = l.at + common (drop l.at l.old) (drop l.at l.new) ≡ common l.old l.new
