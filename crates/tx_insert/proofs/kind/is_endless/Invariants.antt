use Rattle.std.proofs.Common.{◌≡◌, drop}
use Rattle.tx_node.specs.Nodes.{list_of}
use Rattle.tx_insert.specs.Kinds.{is_endless}
use Rattle.tx_insert.proofs.kind.is_endless.Given as goal

abbrev pub invariant-loop-node : goal.invariant-loop-node
invariant-loop-node l = is_endless (list_of (drop l.node-index l.list)) ≡ is_endless (list_of l.list)
