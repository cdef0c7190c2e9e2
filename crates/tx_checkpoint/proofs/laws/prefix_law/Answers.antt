use Rattle.std.proofs.Common.{[]}
use Rattle.tx_checkpoint.proofs.Spared.{spared-all}
use Rattle.tx_checkpoint.proofs.Standing.{prefix-stands}
use Rattle.tx_checkpoint.proofs.laws.prefix_law.Goals as goal

pub returns : goal.returns
returns g c files changes main date limits k fits are =
    prefix-stands g.M.Machine.formatter limits.budget (spared-all changes files fits) limits.pages k (g.M.Machine.formatter.start date main) [] are
