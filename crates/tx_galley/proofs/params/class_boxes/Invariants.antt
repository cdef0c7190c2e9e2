use Rattle.std.proofs.Common.{◌≡◌, ◌++◌, drop}
use Rattle.tx_galley.specs.Params.{class_boxes}
use Rattle.tx_galley.proofs.params.class_boxes.Given as goal

-- the boxes so far stand before those of the classes that are left
abbrev pub invariant-loop-class : goal.invariant-loop-class
invariant-loop-class l = l.boxes ++ class_boxes l.table.table (drop l.class-index l.classes) ≡ class_boxes l.table.table l.classes
