use Rattle.std.proofs.Common.{◌≡◌, ◌+◌, ◌-◌, drop, length}
use Rattle.tx_quiesce.specs.Tails.{unequal}
use Rattle.tx_quiesce.proofs.tails.next_offset.Given as goal

abbrev pub invariant-loop-at : goal.invariant-loop-at
invariant-loop-at l = l.at + unequal l.origin (drop l.at l.numbers) ≡ l.from + unequal l.origin (drop l.from l.numbers)

abbrev pub decreases-loop-at : goal.decreases-loop-at
decreases-loop-at l = length l.numbers - l.at
