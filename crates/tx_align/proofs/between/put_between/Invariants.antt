use Rattle.std.proofs.Common.{◌≡◌, ◌++◌, drop, map}
use Rattle.tx_node.specs.Nodes.{list_of}
use Rattle.tx_align.specs.RowBoxes.{between}
use Rattle.tx_align.proofs.between.put_between.Given as goal

abbrev pub invariant-loop-node : goal.invariant-loop-node
invariant-loop-node l =
    l.nodes ++ map (between l.head) (list_of (drop l.node-index l.list)) ≡ l.initial.nodes ++ map (between l.head) (list_of l.list)
