use Rattle.std.proofs.Common.{◌≡◌, ◌++◌, drop}
use Rattle.tx_node.specs.Nodes.{list_of}
use Rattle.tx_par.proofs.line_list.share_all.Given as goal

abbrev pub invariant-loop-node : goal.invariant-loop-node
invariant-loop-node l = l.nodes ++ list_of (drop l.node-index l.more) ≡ l.initial.nodes ++ list_of l.more
