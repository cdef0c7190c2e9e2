use Rattle.std.proofs.Common.{◌≡◌, ◌∙◌, ap, sym, arith}
use Rattle.std.proofs.lemmas.Int.{ints}
use Rattle.tx_node.specs.declared.node.BoxLeaders.{BoxLeaders}
use Rattle.tx_node.specs.Items.{leaders_item}
use Rattle.tx_node.specs.Nodes.{item_of}
use Rattle.tx_node.specs.Setting.{reach_of}
use Rattle.tx_node.proofs.Reaches.{leaders-copies}
use Rattle.tx_node.proofs.node.Node.copies.Goals as goal

pub returns-in-BoxLeaders : goal.returns-in-BoxLeaders
returns-in-BoxLeaders c =
    let head = c.args.head.now in
    let lent = c.deref.result.now in
    let is : item_of c.args.self.now ≡ leaders_item lent.head lent.inner = ap item_of c.in-BoxLeaders.is ∙ ap (λ (l : BoxLeaders). leaders_item l.head l.inner) (sym c.deref.ensures) in
    leaders-copies head.direction head.setting (reach_of c.args.from) (reach_of c.args.to) lent.head lent.inner is c.copies-copies.ensures.value
    (omega (arith, ints, c.stands-begins.ensures.value, c.stands-begins.ensures.near))
    (omega (arith, ints, c.stands-begins.ensures.value, c.stands-begins.ensures.near, c.stands.ensures.value, c.stands.ensures.near))
