use Rattle.tx_checkpoint.proofs.Standing.{fresh-resumes}
use Rattle.tx_checkpoint.proofs.laws.resumed_law.Goals as goal

pub returns : goal.returns
returns g c files changes main date limits k fits are = fresh-resumes g.M.Machine.formatter files changes main date limits fits k are
