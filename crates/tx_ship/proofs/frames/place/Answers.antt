use Rattle.std.proofs.Common.{arith}
use Rattle.std.proofs.lemmas.Int.{ints}
use Rattle.tx_ship.proofs.frames.place.Goals as goal

pub returns-clause-value : goal.returns-clause-value
returns-clause-value c = omega (arith, ints, c.start_of.ensures.value, c.start_of.ensures.near, c.stands.ensures.value, c.stands.ensures.near)
