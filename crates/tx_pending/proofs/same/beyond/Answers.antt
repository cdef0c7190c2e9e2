use Rattle.std.proofs.Common.{arith, ◌∙◌}
use Rattle.tx_pending.proofs.Places.{next-ahead, beyond-source}
use Rattle.tx_pending.proofs.same.beyond.Goals as goal

pub returns-then-place-last-clause-rest : goal.returns-then-place-last-clause-rest
returns-then-place-last-clause-rest c = next-ahead c.args.stack.now c.args.place

pub returns-clause-rest : goal.returns-clause-rest
returns-clause-rest c =
    c.settled.ensures.same
    ∙ beyond-source c.args.stack.now c.args.place c.index-stack-place.result c.requires.settled (c.requires.some, c.index-stack-place.is) (omega (arith, c.count-last.ensures))
