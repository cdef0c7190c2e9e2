use Rattle.std.proofs.Common.{◌≡◌, ◌+◌, ◌-◌, ◌≤◌, length, reverse, take}
use Rattle.std.specs.List.{prefix_len}
use Rattle.tx_node.specs.Nodes.{list_of}
use Rattle.tx_hyphenate.specs.Finding.{is_in_run}
use Rattle.tx_hyphenate.proofs.find.run_before.Given as goal

abbrev pub invariant-loop-start : goal.invariant-loop-start
invariant-loop-start l =
    record {
      within : l.start ≤ length l.nodes;
      value : (length l.nodes - l.start) + prefix_len (is_in_run l.font) (reverse (list_of (take l.start l.nodes))) ≡ prefix_len (is_in_run l.font) (reverse (list_of l.nodes));
    }

abbrev pub decreases-loop-start : goal.decreases-loop-start
decreases-loop-start l = l.start
