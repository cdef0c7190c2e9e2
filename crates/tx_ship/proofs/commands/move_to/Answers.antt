use Rattle.std.proofs.Common.{◌≡◌, ◌++◌, ◌-ℤ◌, ◌∙◌, arith, to_z, of_z, w32}
use Rattle.std.proofs.lemmas.Int.{ints}
use Rattle.tx_ship.proofs.Steps.{way-puts}
use Rattle.tx_ship.specs.Commands.{right}
use Rattle.tx_ship.proofs.commands.move_to.Goals as goal

pub returns : goal.returns
returns c =
    let across : to_z w32 (of_z w32 c.difference.result) ≡ c.args.to.right -ℤ c.args.from.right = omega (arith, ints, c.difference.ensures) in
    way-puts c.args.body.now.items c.args.from c.args.to (c.in_ok-move_by.ensures ∙ (λ i. c.args.body.now.items ++ right (across i))) c.in_ok-move_down.ensures
