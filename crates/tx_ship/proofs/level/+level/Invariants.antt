use Rattle.std.proofs.Common.{◌≡◌, ◌≤◌, ◌<◌, ◌*◌, ◌^◌, max, true, drop, unsigned_abs}
use Rattle.tx_node.specs.Items.{items_of}
use Rattle.tx_node.specs.Nodes.{list_of}
use Rattle.tx_node.specs.Counts.{nesting_of}
use Rattle.tx_node.specs.Setting.{begun, reach_of, sums_fit}
use Rattle.tx_ship.specs.Commands.{alone_level, level_of}
use Rattle.tx_node.proofs.Measures.{list_measure, node_measure, box_measure, framed_measure, inside_measure}
use Rattle.tx_ship.proofs.level.+level.Given as goal

abbrev pub decreases-list_level : goal.decreases-list_level
decreases-list_level l = list_measure l.list.now

abbrev pub decreases-alone_level : goal.decreases-alone_level
decreases-alone_level l = list_measure l.list.now

abbrev pub decreases-node_level : goal.decreases-node_level
decreases-node_level l = node_measure l.node.now

abbrev pub decreases-box_level : goal.decreases-box_level
decreases-box_level l = box_measure l.inner.now

abbrev pub decreases-entered_level : goal.decreases-entered_level
decreases-entered_level l = framed_measure l.inner.now

abbrev pub decreases-level_inside : goal.decreases-level_inside
decreases-level_inside l = inside_measure l.inner.now

abbrev pub invariant-list_level-loop-node : goal.invariant-list_level-loop-node
invariant-list_level-loop-node l = record {
  sums : sums_fit l.head.setting l.reached.sum (items_of (list_of (drop l.node-index l.list))) ≡ true;
  small : unsigned_abs l.reached.sum < 2 ^ 30;
  natural : unsigned_abs l.reached.natural ≤ l.node-index * 2 ^ 32;
  level : max l.most (level_of l.head.direction l.head.setting (reach_of l.reached) (items_of (list_of (drop l.node-index l.list))))
      ≡ level_of l.head.direction l.head.setting begun (items_of (list_of l.list));
  within : max l.most (nesting_of (items_of (list_of (drop l.node-index l.list)))) ≤ nesting_of (items_of (list_of l.list));
}

abbrev pub invariant-alone_level-loop-node : goal.invariant-alone_level-loop-node
invariant-alone_level-loop-node l = record {
  level : max l.most (alone_level (items_of (list_of (drop l.node-index l.list)))) ≡ alone_level (items_of (list_of l.list));
  within : max l.most (nesting_of (items_of (list_of (drop l.node-index l.list)))) ≤ nesting_of (items_of (list_of l.list));
}
