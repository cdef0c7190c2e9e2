use Rattle.std.proofs.Common.{sym, subst}
use Rattle.tx_node.specs.Nodes.{IsBox}
use Rattle.tx_pack.proofs.Runs.{ended-is}
use Rattle.tx_pack.proofs.packing.packed_as.Goals as goal

pub new-requires : goal.new-requires
new-requires c = subst (IsBox c.args.head) (sym c.in_ok-list.ensures) (ended-is c.args.head c.args.list c.end_rule.result c.requires.is_box)
