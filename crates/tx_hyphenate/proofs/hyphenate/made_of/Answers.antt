use Rattle.std.proofs.Common.{◌≡◌, List, length, rules, ap, ◌∙◌}
use Rattle.tx_node.specs.Items.{Item}
use Rattle.tx_node.specs.Nodes.{item_of, list_of}
use Rattle.tx_hyphenate.specs.Hyphenated.{finished, joined, ways}
use Rattle.tx_hyphenate.proofs.Parting.{glue-step, item-step, last-step, no-items}
use Rattle.tx_hyphenate.proofs.hyphenate.made_of.Goals as goal

pub loop-node-preserved-then-is_parted : goal.loop-node-preserved-then-is_parted
loop-node-preserved-then-is_parted c =
    let w = ways c.args.fonts.now c.args.hyphens.now c.args.lower.now c.args.params in
    glue-step w c.loop-node.made c.finish.new.made c.loop-node.items c.push.new.self c.replace-stretch.new.dest c.loop-node.behind_glue c.loop-node.formula c.is_formula_behind-formula.result (item_of c.in-Some.node)
    (list_of c.next.new.self.rest.items) _ (search rules) (search rules) c.is_formula_behind-formula.ensures
    (c.in_ok-finish.ensures ∙ ap (λ (stretch : List Item). joined c.loop-node.made (finished w c.loop-node.behind_glue stretch)) c.replace-stretch.ensures.value)
    c.in_ok-push.ensures.ok (search rules)

pub loop-node-preserved : goal.loop-node-preserved
loop-node-preserved c =
    item-step (ways c.args.fonts.now c.args.hyphens.now c.args.lower.now c.args.params) c.loop-node.made c.loop-node.items c.push-else-is_parted.new.self c.loop-node.behind_glue c.loop-node.formula c.is_formula_behind-formula.result (item_of c.in-Some.node)
    (list_of c.next.new.self.rest.items) _ (search rules) c.in_ok-push-2.ensures.ok c.is_formula_behind-formula.ensures (search rules)

pub returns : goal.returns
returns c =
    let none : length c.loop-node.node-iterator.rest.items ≡ 0 = search (rules, c.in-None.ensures.steps.0) in
    c.in_ok-finish-2.ensures
    ∙ last-step (ways c.args.fonts.now c.args.hyphens.now c.args.lower.now c.args.params) c.loop-node.made c.loop-node.items c.loop-node.behind_glue c.loop-node.formula (list_of c.loop-node.node-iterator.rest.items) _ (no-items c.loop-node.node-iterator.rest.items none) c.loop-node.invariant
