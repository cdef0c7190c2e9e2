use Rattle.tx_main.proofs.Carrying.{carries}
use Rattle.tx_main.proofs.effects.carry_other_out.Goals as goal

pub returns : goal.returns
returns c = carries c.args.s.now c.carry_out.new.s c.take-command.new.self c.take-command.result c.carry_out.result c.take-command.ensures c.carry_out.ensures
