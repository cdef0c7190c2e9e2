use Rattle.tx_pending.specs.Sources.{stack_elements}
use Rattle.tx_pending.proofs.Filling.{IsFilled}
use Rattle.tx_pending.proofs.pending.put_filled.Given as goal

-- from this place on all is on the stack
abbrev pub invariant-loop-left : goal.invariant-loop-left
invariant-loop-left l = IsFilled l.arguments l.tokens l.slots l.left l.end (stack_elements l.fn.stack.items) (stack_elements l.stack.items)

abbrev pub decreases-loop-left : goal.decreases-loop-left
decreases-loop-left l = l.left
