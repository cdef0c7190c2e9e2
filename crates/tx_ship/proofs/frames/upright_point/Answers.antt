use Rattle.std.proofs.Common.{◌≡◌, ◌∙◌, ap, arith, to_z, of_z}
use Rattle.std.specs.Int.{w128}
use Rattle.std.proofs.lemmas.Int.{ints}
use Rattle.tx_ship.specs.Standing.{reference}
use Rattle.tx_ship.proofs.Steps.{upright-is}
use Rattle.tx_ship.proofs.frames.upright_point.Goals as goal

pub returns-clause-value : goal.returns-clause-value
returns-clause-value c =
    let from_is : to_z w128 (of_z w128 c.args.span.from) ≡ c.args.span.from = omega (arith, ints, c.requires.span_near.from) in
    let height_is : to_z w128 (of_z w128 c.args.height) ≡ c.args.height = omega (arith, ints, c.requires.height) in
    c.reference.ensures.value ∙ ap (reference c.args.frame.head.direction c.args.frame) (upright-is c.args.span.from c.args.height from_is height_is)
