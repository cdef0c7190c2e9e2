use Rattle.std.proofs.Common.{◌≡◌, ◌+◌, ◌-◌, drop, length}
use Rattle.tx_quiesce.specs.Tails.{offsets_of, unequal}
use Rattle.tx_quiesce.proofs.tails.next_row.Given as goal

abbrev pub invariant-loop-at : goal.invariant-loop-at
invariant-loop-at g l = l.at + unequal l.origin (drop l.at (offsets_of l.rows)) ≡ l.from + unequal l.origin (drop l.from (offsets_of l.rows))

abbrev pub decreases-loop-at : goal.decreases-loop-at
decreases-loop-at g l = length l.rows - l.at
