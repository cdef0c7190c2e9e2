use Rattle.std.proofs.Common.{◌≡◌, drop, fold}
use Rattle.tx_node.specs.Nodes.{list_of}
use Rattle.tx_par.specs.Adding.{with_kept}
use Rattle.tx_par.proofs.line.Line.share_between.Given as goal

abbrev pub invariant-loop-node : goal.invariant-loop-node
invariant-loop-node l =
    fold (with_kept l.first_pass) l.self (list_of (drop l.node-index l.nodes)) ≡ fold (with_kept l.first_pass) l.initial.self (list_of l.nodes)
