use Rattle.std.proofs.Common.{List}
use Rattle.tx_seen.specs.declared.item.Item.{Item}
use Rattle.tx_scan.specs.Supplied.{needed}
use Rattle.tx_expand.specs.declared.types.Scanned.{Scanned}
use Rattle.tx_expand.specs.Parts.{more_needed}
use Rattle.tx_expand.specs.Taken.{IsPending}
use Rattle.tx_expand.proofs.scanning.settle.Given as goal

abbrev pub invariant-loop-fed : goal.invariant-loop-fed
invariant-loop-fed g l = (what : Scanned) (items : List Item) → IsPending (g.Q.Quantities.value_at l.quantities) what items l.initial.taken l.initial.part l.initial.fed → IsPending (g.Q.Quantities.value_at l.quantities) what items l.taken l.part l.fed

abbrev pub decreases-loop-fed : goal.decreases-loop-fed
decreases-loop-fed g l = needed l.fed (more_needed l.part)
