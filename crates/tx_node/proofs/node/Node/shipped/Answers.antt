use Rattle.std.proofs.Common.{◌≡◌, ◌∙◌, ap, sym}
use Rattle.tx_node.specs.declared.node.BoxLeaders.{BoxLeaders}
use Rattle.tx_node.specs.Items.{leaders_item}
use Rattle.tx_node.specs.Nodes.{item_of}
use Rattle.tx_node.proofs.Reaches.{leaders-shipped}
use Rattle.tx_node.proofs.node.Node.shipped.Goals as goal

pub returns-in-BoxLeaders : goal.returns-in-BoxLeaders
returns-in-BoxLeaders c =
    let lent = c.deref-in-BoxLeaders.result.now in
    let is : item_of c.args.self.now ≡ leaders_item lent.head lent.inner = ap item_of c.in-BoxLeaders.is ∙ ap (λ (l : BoxLeaders). leaders_item l.head l.inner) (sym c.deref-in-BoxLeaders.ensures) in
    leaders-shipped lent.head lent.inner c.args.copies is c.copied.ensures c.one_more-in-BoxLeaders.ensures
