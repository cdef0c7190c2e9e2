use Rattle.std.proofs.Common.{◌≡◌, drop}
use Rattle.tx_node.specs.Nodes.{list_of}
use Rattle.tx_pagebuilder.specs.Fired.{is_among}
use Rattle.tx_pagebuilder.proofs.joining.is_among.Given as goal

abbrev pub invariant-loop-node : goal.invariant-loop-node
invariant-loop-node l = is_among l.number (list_of (drop l.node-index l.nodes)) ≡ is_among l.number (list_of l.nodes)
