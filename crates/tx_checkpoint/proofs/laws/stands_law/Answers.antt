use Rattle.tx_checkpoint.proofs.Standing.{fresh-stands}
use Rattle.tx_checkpoint.proofs.laws.stands_law.Goals as goal

pub returns : goal.returns
returns g c files changes main date limits fits stand = fresh-stands g.M.Machine.formatter files changes main date limits fits stand
