use Rattle.std.proofs.Common.{rules}
use Rattle.tx_reading.proofs.Stages.{assign-begun}
use Rattle.tx_reading.proofs.stage.begin_assignment.Goals as goal

pub returns : goal.returns
returns c = rw c.on.ensures.answer (assign-begun c.args.begun c.args.want c.on.new.scans c.requires (search rules) (search rules) (search rules))
