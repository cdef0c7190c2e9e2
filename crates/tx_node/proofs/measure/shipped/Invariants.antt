use Rattle.std.proofs.Common.{◌≡◌, ◌≤◌, ◌<◌, ◌+◌, ◌*◌, ◌^◌, true, drop, unsigned_abs}
use Rattle.tx_node.specs.Nodes.{list_of}
use Rattle.tx_node.specs.Items.{items_of}
use Rattle.tx_node.specs.Counts.{ended}
use Rattle.tx_node.specs.Setting.{begun, reach_of, sums_fit}
use Rattle.tx_node.specs.Shipped.{shipped_of}
use Rattle.tx_node.proofs.measure.shipped.Given as goal

abbrev pub invariant-loop-node : goal.invariant-loop-node
invariant-loop-node l = record {
  sums : sums_fit l.head.setting l.reached.sum (items_of (list_of (drop l.node-index l.list))) ≡ true;
  small : unsigned_abs l.reached.sum < 2 ^ 30;
  natural : unsigned_abs l.reached.natural ≤ l.node-index * 2 ^ 32;
  within : l.sum < 2 ^ 64;
  shipped : ended (l.sum + shipped_of l.head.direction l.head.setting (reach_of l.reached) (items_of (list_of (drop l.node-index l.list))))
      ≡ ended (shipped_of l.head.direction l.head.setting begun (items_of (list_of l.list)));
}
