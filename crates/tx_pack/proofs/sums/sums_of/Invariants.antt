use Rattle.std.proofs.Common.{◌≡◌, Some, drop, fold}
use Rattle.tx_node.specs.Nodes.{list_of}
use Rattle.tx_pack.specs.Sums.{IsSmall, with_item, sums_of}
use Rattle.tx_pack.proofs.sums.sums_of.Given as goal

abbrev pub invariant-loop-node : goal.invariant-loop-node
invariant-loop-node l = record {
  rest : fold (with_item l.direction) (Some l.sums) (list_of (drop l.node-index l.list)) ≡ sums_of l.direction (list_of l.list);
  small : IsSmall l.sums;
}
