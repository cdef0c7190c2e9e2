use Rattle.tx_lex.proofs.LineLaws.{trimming-on, trimming-over, trimming-nothing}
use Rattle.tx_lex.proofs.line.trimmed.Goals as goal
use Rattle.tx_lex.proofs.line.trimmed.Goals.{then-loop-end-test+else-text-end-eq32, else-loop-end-test}

pub loop-end-preserved : goal.loop-end-preserved
loop-end-preserved c = trimming-on c.loop-end.invariant c.loop-end-test.true c.if-text-end-eq32.true

pub returns : goal.returns
returns c = elim c.loop-end-test.branch [
  | then-loop-end-test+else-text-end-eq32 w ↦ trimming-over c.loop-end.invariant w.loop-end-test.true w.if-text-end-eq32.false
  | else-loop-end-test w ↦ trimming-nothing c.loop-end.invariant w.loop-end-test.false
]
