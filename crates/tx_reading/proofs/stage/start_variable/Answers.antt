use Rattle.std.proofs.Common.{refl}
use Rattle.tx_command.specs.declared.scans.Stage.TheVariants.{Assign}
use Rattle.tx_reading.proofs.Stages.{variable-begun}
use Rattle.tx_reading.proofs.stage.start_variable.Goals as goal

pub returns : goal.returns
returns c = variable-begun c.args.variable (record c.args.scans.now { assignment = c.begin_variable.new.self; stage = Assign }) refl c.begin_variable.ensures.begun c.begin_variable.ensures.needed
