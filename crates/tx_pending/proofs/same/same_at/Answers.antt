use Rattle.tx_pending.proofs.Places.{same-ahead}
use Rattle.tx_pending.proofs.same.same_at.Goals as goal

pub returns : goal.returns
returns c =
    same-ahead c.same_at.result c.args.one.now c.args.other.now c.args.here c.args.there c.index-one-here.result c.index-other-there.result
    c.requires.here c.requires.there (c.requires.some_here, c.index-one-here.is) (c.requires.some_there, c.index-other-there.is) c.same_at.ensures
