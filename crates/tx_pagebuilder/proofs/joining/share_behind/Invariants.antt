use Rattle.std.proofs.Common.{◌≡◌, ◌++◌, drop}
use Rattle.tx_node.specs.Nodes.{list_of}
use Rattle.tx_pagebuilder.proofs.joining.share_behind.Given as goal

abbrev pub invariant-loop-node : goal.invariant-loop-node
invariant-loop-node l = l.list ++ list_of (drop l.node-index l.nodes) ≡ l.initial.list ++ list_of l.nodes
