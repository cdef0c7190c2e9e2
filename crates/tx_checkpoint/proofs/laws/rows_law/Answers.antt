use Rattle.std.proofs.Common.{[]}
use Rattle.tx_checkpoint.proofs.Standing.{rows-tell}
use Rattle.tx_checkpoint.proofs.laws.rows_law.Goals as goal

pub returns : goal.returns
returns g c files main date limits = rows-tell g.M.Machine.formatter files limits.budget limits.pages (g.M.Machine.formatter.start date main) []
