use Rattle.std.proofs.Common.{◌-◌}
use Rattle.tx_script.proofs.Batches.{Reading}
use Rattle.tx_script.proofs.read.changes.Given as goal

abbrev pub invariant-loop-at : goal.invariant-loop-at
invariant-loop-at l = Reading (l.count - l._at) l.rest l.changes l.count l.bytes
