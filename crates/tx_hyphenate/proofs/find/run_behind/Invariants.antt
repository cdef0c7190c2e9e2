use Rattle.std.proofs.Common.{◌≡◌, ◌+◌, drop}
use Rattle.std.specs.List.{prefix_len}
use Rattle.tx_node.specs.Nodes.{list_of}
use Rattle.tx_hyphenate.specs.Finding.{is_in_run}
use Rattle.tx_hyphenate.proofs.find.run_behind.Given as goal

abbrev pub invariant-loop-k : goal.invariant-loop-k
invariant-loop-k l =
    l.k + prefix_len (is_in_run l.font) (list_of (drop l.k l.nodes)) ≡ prefix_len (is_in_run l.font) (list_of l.nodes)
