use Rattle.std.proofs.Common.{◌≡◌, vec_len}
use Rattle.tx_pending.specs.Sources.{stack_elements}
use Rattle.tx_pending.proofs.pending.drop_spent.Given as goal

abbrev pub invariant-loop-top : goal.invariant-loop-top
invariant-loop-top l = stack_elements l.stack.items ≡ stack_elements l.initial.stack.items

abbrev pub decreases-loop-top : goal.decreases-loop-top
decreases-loop-top l = vec_len l.stack
