use Rattle.std.proofs.Common.{◌≡◌, ◌++◌, drop}
use Rattle.tx_node.specs.Nodes.{list_of}
use Rattle.tx_node.proofs.nodes.shared.Given as goal

abbrev pub invariant-loop-node : goal.invariant-loop-node
invariant-loop-node l = list_of l.copy.items ++ list_of (drop l.node-index l.nodes) ≡ list_of l.nodes
