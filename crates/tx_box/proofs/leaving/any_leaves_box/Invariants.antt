use Rattle.std.proofs.Common.{◌≡◌, drop}
use Rattle.tx_node.specs.Nodes.{list_of}
use Rattle.tx_box.specs.Leaving.{any_leaves_box}
use Rattle.tx_box.proofs.leaving.any_leaves_box.Given as goal

abbrev pub invariant-loop-node : goal.invariant-loop-node
invariant-loop-node l = any_leaves_box (list_of (drop l.node-index l.nodes)) ≡ any_leaves_box (list_of l.nodes)
