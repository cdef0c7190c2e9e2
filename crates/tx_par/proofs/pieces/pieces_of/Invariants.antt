use Rattle.std.proofs.Common.{◌≡◌, ◌++◌, drop}
use Rattle.tx_node.specs.Nodes.{list_of}
use Rattle.tx_par.specs.Pieces as spec
use Rattle.tx_par.proofs.pieces.pieces_of.Given as goal

abbrev pub invariant-loop-at : goal.invariant-loop-at
invariant-loop-at l = l.pieces.items ++ spec.pieces_of (list_of (drop l.at l.nodes)) ≡ spec.pieces_of (list_of l.nodes)
