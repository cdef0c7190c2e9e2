use Rattle.std.proofs.Common.{◌≡◌, drop}
use Rattle.tx_node.specs.Nodes.{list_of}
use Rattle.tx_insert.specs.Splits.{first_mark}
use Rattle.tx_insert.proofs.marks.first_mark.Given as goal

abbrev pub invariant-loop-node : goal.invariant-loop-node
invariant-loop-node l = first_mark (list_of (drop l.node-index l.list)) ≡ first_mark (list_of l.list)
