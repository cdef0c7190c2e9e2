use Rattle.tx_io.proofs.CutShort.{cut-nothing}
use Rattle.tx_call.proofs.Puts.{puts-cut}
use Rattle.tx_call.proofs.serving.refuse.Goals as goal

pub returns-in_err-line-clause-puts : goal.returns-in_err-line-clause-puts
returns-in_err-line-clause-puts g c = puts-cut c.from_residual.result c.from_residual.ensures.0 (cut-nothing _ _)
