use Rattle.std.proofs.Common.{◌≡◌, ◌+◌, ◌≤◌, drop}
use Rattle.tx_node.specs.Nodes.{list_of}
use Rattle.tx_hyphenate.specs.Finding.{word_length}
use Rattle.tx_hyphenate.proofs.find.word_length.Given as goal

abbrev pub invariant-loop-k : goal.invariant-loop-k
invariant-loop-k l =
    record {
      counted : l.count ≤ 63;
      value : l.k + word_length l.lower l.font l.count (list_of (drop l.k l.nodes)) ≡ word_length l.lower l.font 0 (list_of l.nodes);
    }
