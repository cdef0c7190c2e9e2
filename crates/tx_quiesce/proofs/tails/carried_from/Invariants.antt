use Rattle.std.proofs.Common.{◌≤◌, length, drop, Some}
use Rattle.tx_quiesce.specs.Tails.{IsCarriedFrom}
use Rattle.tx_quiesce.proofs.tails.carried_from.Given as goal

-- what the changes from one on lead here
abbrev pub invariant-loop-left : goal.invariant-loop-left
invariant-loop-left l = record {
  within : l.left ≤ length l.changes;
  led : IsCarriedFrom (drop l.left l.changes) l.name l.here (Some l.from);
}

abbrev pub decreases-loop-left : goal.decreases-loop-left
decreases-loop-left l = l.left
