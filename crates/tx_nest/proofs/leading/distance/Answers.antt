use Rattle.std.proofs.Common.{arith}
use Rattle.std.proofs.lemmas.Int.{ints}
use Rattle.tx_nest.proofs.leading.distance.Goals as goal

pub returns : goal.returns
returns c = omega (arith, ints, c.width.ensures.value, c.width.ensures.bound, c.from.ensures, c.from-2.ensures)
