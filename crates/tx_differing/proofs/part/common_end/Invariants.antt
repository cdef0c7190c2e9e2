use Rattle.std.proofs.Common.{◌≡◌, ◌+◌, drop}
use Rattle.std.specs.Prelude.{reverse}
use Rattle.tx_differing.specs.Differing.{common, common_end}
use Rattle.tx_differing.proofs.part.common_end.Given as goal

abbrev pub invariant-loop-at : goal.invariant-loop-at
invariant-loop-at l = l.at + common (drop l.at (reverse l.old)) (drop l.at (reverse l.new)) ≡ common_end l.old l.new
