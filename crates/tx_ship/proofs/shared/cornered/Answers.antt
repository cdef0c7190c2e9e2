use Rattle.std.proofs.Common.{arith}
use Rattle.std.proofs.lemmas.Int.{ints}
use Rattle.tx_ship.proofs.Steps.{cornered-is}
use Rattle.tx_ship.proofs.shared.cornered.Goals as goal

pub returns-clause-value : goal.returns-clause-value
returns-clause-value c =
    cornered-is c.args.at c.args.sides (omega (arith, ints, c.requires.left)) (omega (arith, ints, c.requires.top, c.requires.bottom)) (omega (arith, ints, c.requires.top, c.requires.bottom))
    (omega (arith, ints, c.requires.left, c.requires.right))
