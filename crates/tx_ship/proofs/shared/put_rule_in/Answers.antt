use Rattle.std.proofs.Common.{◌≡◌, ◌++◌, ◌∙◌, refl, sym, ap, arith, to_z, of_z}
use Rattle.std.specs.Int.{w128}
use Rattle.std.proofs.lemmas.Int.{ints}
use Rattle.tx_ship.specs.declared.places.CornerRule.{CornerRule}
use Rattle.tx_ship.specs.declared.places.Point.{Point}
use Rattle.tx_ship.specs.Standing.{reference, upright}
use Rattle.tx_ship.specs.Commands.{cornered, rule_item}
use Rattle.tx_ship.specs.Within.{edges_lie}
use Rattle.tx_ship.proofs.shared.put_rule_in.Goals as goal

pub upright_point-at-requires-clause-height : goal.upright_point-at-requires-clause-height
upright_point-at-requires-clause-height c = omega (arith, ints, c.requires.sides_near.height)

pub cornered-requires : goal.cornered-requires
cornered-requires c = c.if-not-edges_lie.ensures.facts refl

pub returns-then-not-edges_lie-clause-outside : goal.returns-then-not-edges_lie-clause-outside
returns-then-not-edges_lie-clause-outside c = λ _.
    let height_is : to_z w128 (of_z w128 c.args.sides.height) ≡ c.args.sides.height = omega (arith, ints, c.requires.sides_near.height) in
    let at_is = c.upright_point-at.ensures.value ∙ ap (λ height. reference c.args.frame.head.direction c.args.frame (upright c.args.span.from height)) height_is in
    (refl, ap (λ (at : Point). edges_lie at c.args.sides) (sym at_is) ∙ sym c.if-not-edges_lie.ensures.value)

pub returns-clause-lies : goal.returns-clause-lies
returns-clause-lies c =
    let height_is : to_z w128 (of_z w128 c.args.sides.height) ≡ c.args.sides.height = omega (arith, ints, c.requires.sides_near.height) in
    let at_is = c.upright_point-at.ensures.value ∙ ap (λ height. reference c.args.frame.head.direction c.args.frame (upright c.args.span.from height)) height_is in
    ap (λ (at : Point). edges_lie at c.args.sides) (sym at_is) ∙ sym c.if-not-edges_lie.ensures.value

pub returns-clause-commands : goal.returns-clause-commands
returns-clause-commands c =
    let height_is : to_z w128 (of_z w128 c.args.sides.height) ≡ c.args.sides.height = omega (arith, ints, c.requires.sides_near.height) in
    let at_is = c.upright_point-at.ensures.value ∙ ap (λ height. reference c.args.frame.head.direction c.args.frame (upright c.args.span.from height)) height_is in
    c.in_ok-put_rule.ensures.commands
    ∙ ap (λ (r : CornerRule). c.args.body.now.items ++ (rule_item c.args.frame.head.direction c.args.cursor r).0) (c.cornered.ensures.value ∙ ap (λ (at : Point). cornered at c.args.sides) at_is)

pub returns-clause-next : goal.returns-clause-next
returns-clause-next c =
    let height_is : to_z w128 (of_z w128 c.args.sides.height) ≡ c.args.sides.height = omega (arith, ints, c.requires.sides_near.height) in
    let at_is = c.upright_point-at.ensures.value ∙ ap (λ height. reference c.args.frame.head.direction c.args.frame (upright c.args.span.from height)) height_is in
    c.in_ok-put_rule.ensures.next ∙ ap (λ (r : CornerRule). (rule_item c.args.frame.head.direction c.args.cursor r).1) (c.cornered.ensures.value ∙ ap (λ (at : Point). cornered at c.args.sides) at_is)
