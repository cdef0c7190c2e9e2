use Rattle.std.proofs.Common.{◌≡◌, ◌++◌}
use Rattle.tx_node.specs.Nodes.{list_of}
use Rattle.tx_hyphenate.proofs.run.append_nodes.Given as goal

abbrev pub invariant-loop-node : goal.invariant-loop-node
invariant-loop-node l =
    l.list ++ list_of l.node-iterator.rest.items ≡ l.initial.list ++ list_of l.fn.nodes.items
