use Rattle.std.proofs.Common.{◌≡◌, ◌≤◌, max, drop}
use Rattle.tx_node.specs.Nodes.{list_of}
use Rattle.tx_node.specs.Items.{items_of}
use Rattle.tx_node.specs.Counts.{nesting_of}
use Rattle.tx_node.proofs.measure.deepest.Given as goal

abbrev pub invariant-loop-node : goal.invariant-loop-node
invariant-loop-node l = record {
  deepest : max l.most (nesting_of (items_of (list_of (drop l.node-index l.list)))) ≡ nesting_of (items_of (list_of l.list));
  within : l.most ≤ 500;
}
