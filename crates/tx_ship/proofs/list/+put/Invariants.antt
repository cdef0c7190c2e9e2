use Rattle.std.proofs.Common.{◌≡◌, ◌≤◌, ◌<◌, ◌+◌, ◌*◌, ◌^◌, true, drop, unsigned_abs}
use Rattle.tx_node.specs.Items.{items_of}
use Rattle.tx_node.specs.Nodes.{list_of}
use Rattle.tx_node.specs.Setting.{begun, reach_of, sums_fit}
use Rattle.tx_ship.specs.Commands.{pen_at, list_commands, inside, copied}
use Rattle.tx_ship.specs.Standing.{copy_at, place}
use Rattle.tx_ship.specs.Within.{list_lies, copies_lie, copy_lies, IsReader}
use Rattle.tx_node.proofs.Measures.{list_measure, node_measure, leaders_measure, box_measure, framed_measure, inside_measure}
use Rattle.tx_ship.proofs.Steps.{Joins, all_of}
use Rattle.tx_ship.proofs.list.+put.Given as goal

abbrev pub decreases-put_list : goal.decreases-put_list
decreases-put_list l = list_measure l.list.now

abbrev pub decreases-put_node : goal.decreases-put_node
decreases-put_node l = node_measure l.node.now

abbrev pub decreases-put_leaders : goal.decreases-put_leaders
decreases-put_leaders l = leaders_measure l.leaders.now + 1

abbrev pub decreases-put_copies : goal.decreases-put_copies
decreases-put_copies l = box_measure l.inner.now + 1

abbrev pub decreases-put_copy : goal.decreases-put_copy
decreases-put_copy l = box_measure l.inner.now

abbrev pub decreases-put_box : goal.decreases-put_box
decreases-put_box l = box_measure l.inner.now

abbrev pub decreases-put_framed : goal.decreases-put_framed
decreases-put_framed l = framed_measure l.inner.now

abbrev pub decreases-put_inside : goal.decreases-put_inside
decreases-put_inside l = inside_measure l.inner.now

abbrev pub invariant-put_list-loop-node : goal.invariant-put_list-loop-node
invariant-put_list-loop-node l = record {
  sums : sums_fit l.frame.head.setting l.reached.sum (items_of (list_of (drop l.node-index l.list))) ≡ true;
  small : unsigned_abs l.reached.sum < 2 ^ 30;
  natural : unsigned_abs l.reached.natural ≤ l.node-index * 2 ^ 32;
  from : l.from ≡ place l.frame (reach_of l.reached);
  near : unsigned_abs l.from ≤ 2 ^ 99;
  on_page : IsReader l.cursor;
  lies : list_lies l.frame (reach_of l.reached) (items_of (list_of (drop l.node-index l.list))) ≡ list_lies l.frame begun (items_of (list_of l.list));
  commands : Joins l.output (all_of l.initial.output (list_commands l.fonts l.frame begun (pen_at l.initial.output.fonts l.fn.start) (items_of (list_of l.list))))
      (list_commands l.fonts l.frame (reach_of l.reached) (pen_at l.output.fonts l.cursor) (items_of (list_of (drop l.node-index l.list))));
}

abbrev pub invariant-put_copies-loop-left : goal.invariant-put_copies-loop-left
invariant-put_copies-loop-left l = record {
  near : unsigned_abs l.from ≤ 2 ^ 100;
  on_page : IsReader l.cursor;
  lies : copies_lie (copy_lies l.inner) (copy_at l.frame l.inner.head) l.copies.step l.left l.from
      ≡ copies_lie (copy_lies l.inner) (copy_at l.frame l.inner.head) l.copies.step l.copies.count l.first;
  commands : Joins l.output
      (all_of l.initial.output (copied l.frame.head.direction (inside l.fonts l.inner) (copy_at l.frame l.inner.head) l.copies.step l.copies.count l.first (pen_at l.initial.output.fonts l.fn.start)))
      (copied l.frame.head.direction (inside l.fonts l.inner) (copy_at l.frame l.inner.head) l.copies.step l.left l.from (pen_at l.output.fonts l.cursor));
  at : (copied l.frame.head.direction (inside l.fonts l.inner) (copy_at l.frame l.inner.head) l.copies.step l.left l.from (pen_at l.output.fonts l.cursor)).1.at
      ≡ (copied l.frame.head.direction (inside l.fonts l.inner) (copy_at l.frame l.inner.head) l.copies.step l.copies.count l.first (pen_at l.initial.output.fonts l.fn.start)).1.at;
}

abbrev pub decreases-put_copies-loop-left : goal.decreases-put_copies-loop-left
decreases-put_copies-loop-left l = l.left
