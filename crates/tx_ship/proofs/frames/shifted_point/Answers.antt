use Rattle.std.proofs.Common.{◌≡◌, ◌∙◌, ap, arith, to_z, of_z}
use Rattle.std.specs.Int.{w128}
use Rattle.std.proofs.lemmas.Int.{ints}
use Rattle.tx_ship.specs.Standing.{reference}
use Rattle.tx_ship.proofs.Steps.{shifted-is}
use Rattle.tx_ship.proofs.frames.shifted_point.Goals as goal

pub returns-clause-value : goal.returns-clause-value
returns-clause-value c =
    let head = c.args.inner.now.head in
    let from_is : to_z w128 (of_z w128 c.args.span.from) ≡ c.args.span.from = omega (arith, ints, c.requires.span_near.from) in
    let shift_is : to_z w128 (of_z w128 c.args.shift) ≡ c.args.shift = omega (arith, ints, c.requires.shift) in
    let height_is : to_z w128 (of_z w128 c.from.result) ≡ head.height = omega (arith, ints, c.from.ensures, c.from.type_inv, c.height.ensures) in
    c.reference.ensures.value ∙ ap (reference c.args.frame.head.direction c.args.frame) (shifted-is c.args.span.from c.args.shift head from_is shift_is height_is)
