use Rattle.std.proofs.Common.{◌≡◌, length, take}
use Rattle.tx_node.specs.Nodes.{list_of}
use Rattle.tx_node.proofs.Measures.{list_measure, node_measure, box_measure, leaders_measure, sublist_measure, discretionary_measure, insertion_measure}
use Rattle.tx_node.proofs.same.+same.Given as goal

abbrev pub invariant-same_list-loop-i : goal.invariant-same_list-loop-i
invariant-same_list-loop-i l = record {
  equal : list_of (take l.i l.a) ≡ list_of (take l.i l.b);
  long : length l.a ≡ length l.b;
}

abbrev pub decreases-same_list : goal.decreases-same_list
decreases-same_list l = list_measure l.a.now

abbrev pub decreases-same_node : goal.decreases-same_node
decreases-same_node l = node_measure l.a.now

abbrev pub decreases-same_box : goal.decreases-same_box
decreases-same_box l = box_measure l.a.now

abbrev pub decreases-same_sublist : goal.decreases-same_sublist
decreases-same_sublist l = sublist_measure l.a.now

abbrev pub decreases-same_discretionary : goal.decreases-same_discretionary
decreases-same_discretionary l = discretionary_measure l.a.now

abbrev pub decreases-same_insertion : goal.decreases-same_insertion
decreases-same_insertion l = insertion_measure l.a.now

abbrev pub decreases-same_box_leaders : goal.decreases-same_box_leaders
decreases-same_box_leaders l = leaders_measure l.a.now
