use Rattle.std.proofs.Common.{ap}
use Rattle.tx_node.specs.Nodes.{list_of}
use Rattle.tx_mlist.proofs.Equal.{same-single}
use Rattle.tx_mlist.proofs.same.same_item.Goals as goal

pub returns : goal.returns
returns c =
    same-single c.args.a.now c.args.b.now (ap list_of c.from_ref.ensures.value) (ap list_of c.from_ref-2.ensures.value) c.same_list.ensures
