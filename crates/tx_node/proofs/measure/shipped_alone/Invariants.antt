use Rattle.std.proofs.Common.{◌≡◌, ◌<◌, ◌+◌, ◌^◌, drop}
use Rattle.tx_node.specs.Nodes.{list_of}
use Rattle.tx_node.specs.Items.{items_of}
use Rattle.tx_node.specs.Counts.{ended}
use Rattle.tx_node.specs.Shipped.{alone_shipped}
use Rattle.tx_node.proofs.measure.shipped_alone.Given as goal

abbrev pub invariant-loop-node : goal.invariant-loop-node
invariant-loop-node l = record {
  counted : ended (l.sum + alone_shipped (items_of (list_of (drop l.node-index l.list)))) ≡ ended (alone_shipped (items_of (list_of l.list)));
  within : l.sum < 2 ^ 64;
}
