use Rattle.std.proofs.Common.{◌≡◌, ◌++◌}
use Rattle.tx_math.specs.Composing.{at_beginning, composed_within}
use Rattle.tx_math.specs.Converting.{entries_in}
use Rattle.tx_math.specs.Setters.{math_in}
use Rattle.tx_math.proofs.setter.Setter.make_steps.Given as goal

abbrev pub invariant-loop-left : goal.invariant-loop-left
invariant-loop-left l =
    entries_in l.done ++ composed_within l.left (math_in l.self) l.before (entries_in l.rest)
    ≡ composed_within l.most (math_in l.self) at_beginning (entries_in l.initial.rest)

abbrev pub decreases-loop-left : goal.decreases-loop-left
decreases-loop-left l = l.left
