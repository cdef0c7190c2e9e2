use Rattle.std.proofs.Common.{◌≡◌, ◌≤◌, ◌++◌, drop, map, length}
use Rattle.std.specs.FinMap.{from_entries}
use Rattle.tx_prim.specs.Table.{name_of}
use Rattle.tx_seen.specs.declared.meaning.Meaning.TheVariants.{Command}
use Rattle.tx_eqtb.specs.Initex.{expandable_entries}
use Rattle.tx_eqtb.proofs.initex.initial_names.Given as goal

-- the primitives from this one on have their names
abbrev pub invariant-loop-left : goal.invariant-loop-left
invariant-loop-left l = (l.left ≤ length l.primitives) × (l.names ≡ from_entries (map (λ p. (name_of p, Command p)) (drop l.left l.primitives) ++ expandable_entries))

abbrev pub decreases-loop-left : goal.decreases-loop-left
decreases-loop-left l = l.left
