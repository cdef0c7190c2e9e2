use Rattle.std.proofs.Common.{◌≡◌, drop}
use Rattle.tx_node.specs.Nodes.{list_of}
use Rattle.tx_display.specs.Edges.{any_is_set}
use Rattle.tx_display.proofs.edge.any_is_set.Given as goal

abbrev pub invariant-loop-node : goal.invariant-loop-node
invariant-loop-node l = any_is_set l.setting (list_of (drop l.node-index l.list)) ≡ any_is_set l.setting (list_of l.list)
