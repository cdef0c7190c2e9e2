use Rattle.tx_lex.proofs.Loops.{reducing-on, reducing-over}
use Rattle.tx_lex.proofs.characters.reduced.Goals as goal

pub loop-inner-preserved : goal.loop-inner-preserved
loop-inner-preserved c = reducing-on c.loop-inner.invariant c.in-Some.ensures

pub returns-clause-read : goal.returns-clause-read
returns-clause-read c = reducing-over c.loop-inner.invariant c.in_default.ensures
