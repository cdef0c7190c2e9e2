use Rattle.std.proofs.Common.{sym, arith}
use Rattle.tx_linebreak.proofs.LineStarts.{past-over}
use Rattle.tx_linebreak.proofs.attempt.past_discardables.Goals as goal

pub returns-then-place-pieces : goal.returns-then-place-pieces
returns-then-place-pieces c = sym (past-over c.args.pieces.now c.args.place (omega arith))
