use Rattle.std.proofs.Common.{◌≡◌, drop}
use Rattle.tx_prim.specs.Expandables.{named}
use Rattle.tx_prim.proofs.expandable.first_named.Given as goal

-- none of those so far has the name
abbrev pub invariant-loop-expandable : goal.invariant-loop-expandable
invariant-loop-expandable l = named (drop l.expandable-index l.expandables) l.name ≡ named l.expandables l.name
