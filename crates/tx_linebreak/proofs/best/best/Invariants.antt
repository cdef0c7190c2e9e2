use Rattle.tx_linebreak.proofs.Choosing.{IsBestTo}
use Rattle.tx_linebreak.proofs.best.best.Given as goal

abbrev pub invariant-loop-link : goal.invariant-loop-link
invariant-loop-link l = IsBestTo l.chains l.links l.link-index l.best
