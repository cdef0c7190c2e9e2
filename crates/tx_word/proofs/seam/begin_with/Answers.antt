use Rattle.tx_word.proofs.Divided.{short-not}
use Rattle.tx_word.proofs.seam.begin_with.Goals as goal

pub returns-then-items-first-clause-same : goal.returns-then-items-first-clause-same
returns-then-items-first-clause-same c = short-not c.args.items.now c.args.first.now c.if-items-first.true
