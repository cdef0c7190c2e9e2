use Rattle.std.proofs.Common.{◌≡◌, ◌++◌, pos, replicate}
use Rattle.tx_tfm.specs.Parameters.{lengthened}
use Rattle.tx_tfm.proofs.parameters.lengthen.Given as goal

abbrev pub invariant-loop-missing : goal.invariant-loop-missing
invariant-loop-missing l = l.values.items ++ replicate l.missing (pos 0) ≡ lengthened l.count l.initial.values.items

abbrev pub decreases-loop-missing : goal.decreases-loop-missing
decreases-loop-missing l = l.missing
