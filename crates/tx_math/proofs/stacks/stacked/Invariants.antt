use Rattle.std.proofs.Common.{◌≡◌, ◌++◌, length}
use Rattle.tx_math.proofs.stacks.stacked.Given as goal

abbrev pub invariant-loop-value : goal.invariant-loop-value
invariant-loop-value g l = l.left ++ l.stack ≡ l.fn.values

abbrev pub decreases-loop-value : goal.decreases-loop-value
decreases-loop-value g l = length l.left
