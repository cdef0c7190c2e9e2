use Rattle.std.proofs.Common.{◌≡◌, ◌++◌}
use Rattle.std.specs.Prelude.{replicate}
use Rattle.tx_node.specs.Nodes.{item_of}
use Rattle.tx_delim.proofs.stacking.push_copies.Given as goal

abbrev pub invariant-loop-left : goal.invariant-loop-left
invariant-loop-left l = l.list ++ replicate l.left (item_of l.node) ≡ l.initial.list ++ replicate l.times (item_of l.node)

abbrev pub decreases-loop-left : goal.decreases-loop-left
decreases-loop-left l = l.left
