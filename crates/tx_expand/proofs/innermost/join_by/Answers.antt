use Rattle.tx_expand.proofs.Joining.{joins-by}
use Rattle.tx_expand.proofs.innermost.join_by.Goals as goal

pub returns : goal.returns
returns c = joins-by c.args.begun.now c.in-Use.using c.join.new.self c.args.token.now c.join.result c.in-Use.is c.join.ensures
