use Rattle.std.proofs.Common.{◌≡◌, ◌∙◌, ◌≤◌, ◌^◌, pos, refl, ap, arith, to_z, of_z, unsigned_abs}
use Rattle.std.specs.Int.{w128}
use Rattle.std.proofs.lemmas.Int.{ints}
use Rattle.tx_ship.specs.Standing.{reference}
use Rattle.tx_ship.proofs.Copying.{copy-near}
use Rattle.tx_ship.proofs.Steps.{shifted-is}
use Rattle.tx_ship.proofs.frames.copy_at.Goals as goal

pub returns-clause-value : goal.returns-clause-value
returns-clause-value c =
    let from_is : to_z w128 (of_z w128 c.args.from) ≡ c.args.from = omega (arith, ints, c.requires.from) in
    let height_is : to_z w128 (of_z w128 c.from.result) ≡ c.args.inner.now.head.height = omega (arith, ints, c.from.ensures, c.from.type_inv, c.height.ensures) in
    c.reference.ensures.value ∙ ap (reference c.args.frame.head.direction c.args.frame) (shifted-is c.args.from (pos 0) c.args.inner.now.head from_is refl height_is)

pub returns-clause-on_page : goal.returns-clause-on_page
returns-clause-on_page c = λ lies.
    let from_is : to_z w128 (of_z w128 c.args.from) ≡ c.args.from = omega (arith, ints, c.requires.from) in
    let height_is : to_z w128 (of_z w128 c.from.result) ≡ c.args.inner.now.head.height = omega (arith, ints, c.from.ensures, c.from.type_inv, c.height.ensures) in
    let small : unsigned_abs c.args.inner.now.head.height ≤ 2 ^ 31 = omega (arith, ints, c.height.ensures, c.height.type_inv) in
    copy-near c.args.frame c.args.inner.now.head c.args.from
    (c.reference.ensures.value ∙ ap (reference c.args.frame.head.direction c.args.frame) (shifted-is c.args.from (pos 0) c.args.inner.now.head from_is refl height_is)) lies small
