use Rattle.std.proofs.Common.{◌≡◌, ◌++◌, map}
use Rattle.tx_mlist.specs.Items.{material}
use Rattle.tx_node.specs.Nodes.{list_of}
use Rattle.tx_box.proofs.formulas.append_nodes.Given as goal

-- the noads so far, and the nodes that are left, are all
abbrev pub invariant-loop-node : goal.invariant-loop-node
invariant-loop-node l = l.noads ++ map material (list_of l.node-iterator.rest.items) ≡ l.initial.noads ++ map material l.fn.nodes
