use Rattle.std.proofs.Common.{arith}
use Rattle.tx_hyphen.proofs.Raised.{raised-next}
use Rattle.tx_hyphen.proofs.lexicon.Lexicon.raise_all.Goals as goal

pub loop-offset-preserved : goal.loop-offset-preserved
loop-offset-preserved c =
    raised-next _ _ _ _ _ _ (omega arith) c.loop-offset.auto.levels c.raise_here.auto.levels c.loop-offset.invariant
    c.raise_here.ensures
