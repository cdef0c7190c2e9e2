use Rattle.std.proofs.Common.{◌≡◌}
use Rattle.tx_galley.specs.Firing.{with_boxes}
use Rattle.tx_galley.proofs.firing.put_boxes.Given as goal

abbrev pub invariant-loop-found : goal.invariant-loop-found
invariant-loop-found l = with_boxes l.found-iterator.rest.items l.table ≡ with_boxes l.fn.boxes l.initial.table
