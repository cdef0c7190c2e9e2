use Rattle.tx_quiesce.proofs.Found.{reuse-is}
use Rattle.tx_quiesce.proofs.laws.reuse_law.Goals as goal

pub returns : goal.returns
returns g c files changes main date limits k fits are = reuse-is g.M.Machine.formatter g.met.M.Machine.lawful files changes main date limits fits k are
