use Rattle.std.proofs.Common.{◌≡◌, ◌++◌, take, drop, map}
use Rattle.tx_eqtb.specs.Stack.{assigned_outside}
use Rattle.tx_eqtb.proofs.nesting.assign_each.Given as goal

-- the groups so far have changed
abbrev pub invariant-loop-k : goal.invariant-loop-k
invariant-loop-k l = l.groups ≡ map (assigned_outside l.level l.place l.value) (take l.k l.initial.groups) ++ drop l.k l.initial.groups
