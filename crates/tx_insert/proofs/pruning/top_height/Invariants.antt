use Rattle.std.proofs.Common.{◌≡◌, drop}
use Rattle.tx_node.specs.Nodes.{list_of}
use Rattle.tx_insert.specs.Splits.{top_height}
use Rattle.tx_insert.proofs.pruning.top_height.Given as goal

abbrev pub invariant-loop-node : goal.invariant-loop-node
invariant-loop-node l = top_height (list_of (drop l.node-index l.list)) ≡ top_height (list_of l.list)
