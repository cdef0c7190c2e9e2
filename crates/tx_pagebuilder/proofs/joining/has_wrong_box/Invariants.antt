use Rattle.std.proofs.Common.{◌≡◌, drop}
use Rattle.tx_node.specs.Nodes.{list_of}
use Rattle.tx_pagebuilder.specs.Fired.{has_wrong_box}
use Rattle.tx_pagebuilder.proofs.joining.has_wrong_box.Given as goal

abbrev pub invariant-loop-class : goal.invariant-loop-class
invariant-loop-class l = has_wrong_box l.boxes (list_of l.above) (drop l.class-index l.classes) ≡ has_wrong_box l.boxes (list_of l.above) l.classes
