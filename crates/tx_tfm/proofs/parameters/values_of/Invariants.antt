use Rattle.std.proofs.Common.{◌≡◌, ◌≤◌, ◌-◌}
use Rattle.tx_tfm.specs.Parameters.{first_parameters}
use Rattle.tx_tfm.proofs.parameters.values_of.Given as goal

abbrev pub invariant-loop-n : goal.invariant-loop-n
invariant-loop-n l = (l.values.items ≡ first_parameters l.font l.n) × (l.n ≤ l.count)

abbrev pub decreases-loop-n : goal.decreases-loop-n
decreases-loop-n l = l.count - l.n
