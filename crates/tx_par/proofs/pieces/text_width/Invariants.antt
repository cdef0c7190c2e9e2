use Rattle.std.proofs.Common.{◌≡◌, drop, fold}
use Rattle.tx_num.specs.Glue.{IsDimension}
use Rattle.tx_node.specs.Nodes.{list_of}
use Rattle.tx_par.specs.Pieces as spec
use Rattle.tx_par.proofs.pieces.text_width.Given as goal

abbrev pub invariant-loop-node : goal.invariant-loop-node
invariant-loop-node l = record {
  rest : fold spec.further l.width (list_of (drop l.node-index l.text)) ≡ spec.text_width (list_of l.text);
  small : IsDimension l.width;
}
