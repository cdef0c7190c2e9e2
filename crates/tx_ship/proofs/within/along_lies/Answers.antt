use Rattle.std.proofs.Common.{◌≡◌, ◌+ℤ◌, ◌-ℤ◌, arith, to_z, of_z}
use Rattle.std.specs.Int.{w128}
use Rattle.std.proofs.lemmas.Int.{ints}
use Rattle.tx_ship.proofs.Steps.{along-are}
use Rattle.tx_ship.proofs.within.along_lies.Goals as goal

pub returns-then-is_on_page : goal.returns-then-is_on_page
returns-then-is_on_page c =
    let over : to_z w128 (of_z w128 c.top.result) ≡ c.args.at.v -ℤ c.args.sides.height = omega (arith, ints, c.top.ensures.value, c.top.ensures.near) in
    let under : to_z w128 (of_z w128 c.bottom.result) ≡ c.args.at.v +ℤ c.args.sides.depth = omega (arith, ints, c.bottom.ensures.value, c.bottom.ensures.near) in
    along-are c.args.at c.args.sides c.if-is_on_page.ensures c.is_on_page-then-is_on_page.ensures over under
