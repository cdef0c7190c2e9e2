use Rattle.tx_lex.proofs.LineLaws.{Trimming}
use Rattle.tx_lex.proofs.line.trimmed.Given as goal

abbrev pub invariant-loop-end : goal.invariant-loop-end
invariant-loop-end l = Trimming l.text l.end

abbrev pub decreases-loop-end : goal.decreases-loop-end
decreases-loop-end l = l.end
