use Rattle.tx_linebreak.proofs.LineStarts.{AreStartsFrom}
use Rattle.tx_linebreak.proofs.starts.running_starts.Given as goal

abbrev pub invariant-loop-place : goal.invariant-loop-place
invariant-loop-place l = AreStartsFrom l.place l.starts.items l.pieces

abbrev pub decreases-loop-place : goal.decreases-loop-place
decreases-loop-place l = l.place
