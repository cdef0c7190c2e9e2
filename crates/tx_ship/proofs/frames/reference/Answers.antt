use Rattle.std.proofs.Common.{arith}
use Rattle.std.proofs.lemmas.Int.{ints}
use Rattle.tx_ship.proofs.Steps.{across-is, along-is}
use Rattle.tx_ship.proofs.frames.reference.Goals as goal

pub returns-in-Horizontal-clause-value : goal.returns-in-Horizontal-clause-value
returns-in-Horizontal-clause-value c = across-is c.args.frame c.args.stand c.in-Horizontal.is (omega (arith, ints, c.requires.from)) (omega (arith, ints, c.requires.near.v, c.requires.shift))

pub returns-in-Vertical-clause-value : goal.returns-in-Vertical-clause-value
returns-in-Vertical-clause-value c = along-is c.args.frame c.args.stand c.in-Vertical.is (omega (arith, ints, c.requires.near.h, c.requires.shift)) (omega (arith, ints, c.requires.from, c.requires.height))
