use Rattle.std.proofs.Common.{◌≡◌, drop}
use Rattle.tx_node.specs.Nodes.{list_of}
use Rattle.tx_box.specs.Breaks.{are_of_text}
use Rattle.tx_box.proofs.breaks.are_of_text.Given as goal

abbrev pub invariant-loop-node : goal.invariant-loop-node
invariant-loop-node l = are_of_text (list_of (drop l.node-index l.nodes)) ≡ are_of_text (list_of l.nodes)
