use Rattle.std.proofs.Common.{◌≡◌, drop}
use Rattle.tx_node.specs.Nodes.{list_of}
use Rattle.tx_insert.specs.Splits.{last_mark, either}
use Rattle.tx_insert.proofs.marks.last_mark.Given as goal

abbrev pub invariant-loop-node : goal.invariant-loop-node
invariant-loop-node l = either (last_mark (list_of (drop l.node-index l.list))) l.last ≡ last_mark (list_of l.list)
