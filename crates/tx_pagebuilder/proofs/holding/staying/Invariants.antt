use Rattle.std.proofs.Common.{◌≡◌, ◌++◌, drop}
use Rattle.std.specs.Prelude.{filter}
use Rattle.tx_node.specs.Nodes.{list_of}
use Rattle.tx_pagebuilder.specs.Fired.{stays_on}
use Rattle.tx_pagebuilder.proofs.holding.staying.Given as goal

abbrev pub invariant-loop-node : goal.invariant-loop-node
invariant-loop-node l = l.list ++ filter stays_on (list_of (drop l.node-index l.above)) ≡ filter stays_on (list_of l.above)
