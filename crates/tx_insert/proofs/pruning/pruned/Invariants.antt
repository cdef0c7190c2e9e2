use Rattle.std.proofs.Common.{◌≡◌, ◌++◌, drop}
use Rattle.tx_node.specs.Nodes.{list_of}
use Rattle.tx_insert.specs.Splits.{pruned, pruned_from}
use Rattle.tx_insert.proofs.pruning.pruned.Given as goal

abbrev pub invariant-loop-node : goal.invariant-loop-node
invariant-loop-node l = l.rest ++ pruned_from l.begun l.glue (list_of (drop l.node-index l.list)) ≡ pruned l.glue (list_of l.list)
