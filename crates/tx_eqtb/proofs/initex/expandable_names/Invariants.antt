use Rattle.std.proofs.Common.{◌≡◌, ◌≤◌, drop, map, length}
use Rattle.std.specs.FinMap.{from_entries}
use Rattle.tx_prim.specs.Expandables.{name_of}
use Rattle.tx_seen.specs.declared.meaning.Meaning.TheVariants.{Expandable}
use Rattle.tx_eqtb.proofs.initex.expandable_names.Given as goal

-- the expandable primitives from this one on have their names
abbrev pub invariant-loop-left : goal.invariant-loop-left
invariant-loop-left l = (l.left ≤ length l.expandables) × (l.names ≡ from_entries (map (λ e. (name_of e, Expandable e)) (drop l.left l.expandables)))

abbrev pub decreases-loop-left : goal.decreases-loop-left
decreases-loop-left l = l.left
