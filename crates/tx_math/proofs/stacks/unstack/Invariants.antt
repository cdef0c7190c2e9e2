use Rattle.std.proofs.Common.{◌≡◌, ◌++◌, length}
use Rattle.tx_math.proofs.stacks.unstack.Given as goal

abbrev pub invariant-loop-value : goal.invariant-loop-value
invariant-loop-value g l = l.done ++ l.stack ≡ l.initial.done ++ l.fn.stack

abbrev pub decreases-loop-value : goal.decreases-loop-value
decreases-loop-value g l = length l.stack
