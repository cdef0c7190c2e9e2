use Rattle.std.proofs.Common.{arith}
use Rattle.std.proofs.lemmas.Int.{ints}
use Rattle.tx_ship.proofs.Copying.{copies-are}
use Rattle.tx_ship.proofs.frames.copies_from.Goals as goal

pub returns-clause-value : goal.returns-clause-value
returns-clause-value c =
    copies-are c.args.frame c.args.span c.args.leaders.now.head.kind c.args.leaders.now.inner.head c.copies.ensures.value
    (omega (arith, ints, c.start_of.ensures.value, c.start_of.ensures.near, c.requires.span_near.from)) (omega (arith, ints, c.size_of.ensures.value, c.size_of.ensures.near))
