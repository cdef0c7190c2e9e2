use Rattle.tx_linebreak.proofs.Summing.{AreSumsTo}
use Rattle.tx_linebreak.proofs.totals.running_sums.Given as goal

abbrev pub invariant-loop-piece : goal.invariant-loop-piece
invariant-loop-piece l = AreSumsTo l.piece-index l.sums.items l.total l.pieces
