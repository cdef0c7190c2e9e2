use Rattle.std.proofs.Common.{◌≡◌, take}
use Rattle.tx_pending.specs.Sources.{stack_elements}
use Rattle.tx_pending.proofs.pending.shared.Given as goal

abbrev pub invariant-loop-source : goal.invariant-loop-source
invariant-loop-source l = stack_elements l.copy.items ≡ stack_elements (take l.source-index l.stack)
