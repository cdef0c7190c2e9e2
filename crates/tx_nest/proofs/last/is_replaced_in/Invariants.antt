use Rattle.std.proofs.Common.{◌≡◌, drop}
use Rattle.tx_node.specs.Nodes.{list_of}
use Rattle.tx_nest.specs.Lasts.{is_replaced}
use Rattle.tx_nest.proofs.last.is_replaced_in.Given as goal

abbrev pub invariant-loop-i : goal.invariant-loop-i
invariant-loop-i l = is_replaced (list_of (drop l.i l.items)) ≡ is_replaced (list_of l.items)
