use Rattle.std.proofs.Common.{◌≡◌, drop}
use Rattle.tx_node.specs.Nodes.{list_of}
use Rattle.tx_math.specs.Fences.{with_items}
use Rattle.tx_math.specs.Setters.{IsReach}
use Rattle.tx_math.proofs.fences.with_items.Given as goal

abbrev pub invariant-loop-node : goal.invariant-loop-node
invariant-loop-node l =
    (with_items l.reach (list_of (drop l.node-index l.list)) ≡ with_items l.fn.begun (list_of l.list)) × IsReach l.reach
