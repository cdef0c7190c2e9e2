use Rattle.tx_linebreak.proofs.Asking.{IsAskedTo}
use Rattle.tx_linebreak.proofs.loose.preferred.Given as goal

abbrev pub invariant-loop-link : goal.invariant-loop-link
invariant-loop-link l = IsAskedTo l.chains l.asked l.best l.links l.link-index l.chosen
