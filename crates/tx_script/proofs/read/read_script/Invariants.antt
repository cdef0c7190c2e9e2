use Rattle.std.proofs.Common.{length}
use Rattle.tx_script.proofs.Scripts.{Going}
use Rattle.tx_script.proofs.read.read_script.Given as goal

abbrev pub invariant-loop-rest : goal.invariant-loop-rest
invariant-loop-rest l = Going l.bytes l.rest l.script

abbrev pub decreases-loop-rest : goal.decreases-loop-rest
decreases-loop-rest l = length l.rest
