use Rattle.std.proofs.Common.{◌≡◌, [], drop}
use Rattle.tx_node.specs.Nodes.{list_of}
use Rattle.tx_pagebuilder.specs.Fired.{boxes_made}
use Rattle.tx_pagebuilder.proofs.joining.boxes_made.Given as goal

abbrev pub invariant-loop-class : goal.invariant-loop-class
invariant-loop-class l = boxes_made l.boxes (list_of l.above) l.made (drop l.class-index l.classes) ≡ boxes_made l.boxes (list_of l.above) [] l.classes
