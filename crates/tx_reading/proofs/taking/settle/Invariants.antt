use Rattle.std.proofs.Common.{◌≡◌, ◌∷◌, [], List}
use Rattle.tx_prim.specs.declared.modes.Mode.{Mode}
use Rattle.tx_seen.specs.declared.item.Item.{Item}
use Rattle.tx_seen.specs.declared.item.Item.TheVariants.{Took}
use Rattle.tx_seen.specs.Readings.{last}
use Rattle.tx_scan.specs.Supplied.{needed}
use Rattle.tx_command.specs.declared.types.Head.{Head}
use Rattle.tx_command.specs.Rests.{more_needed, told, GoesOn}
use Rattle.tx_command.specs.Taken.{IsPending}
use Rattle.tx_reading.proofs.taking.settle.Given as goal

abbrev pub invariant-loop-fed : goal.invariant-loop-fed
invariant-loop-fed g l = record {
  pending : (mode : Mode) (head : Head) (items : List Item) → IsPending (g.Q.Quantities.value_at l.quantities) mode head items l.initial.taken l.initial.scans (told l.initial.scans l.initial.made l.initial.fed) → IsPending (g.Q.Quantities.value_at l.quantities) mode head items l.taken l.scans (told l.scans l.made l.fed);
  behind_is : last 1 l.taken ≡ Took l.behind ∷ [];
  on : GoesOn l.scans l.fed;
}

abbrev pub decreases-loop-fed : goal.decreases-loop-fed
decreases-loop-fed g l = needed l.fed (more_needed l.scans)
