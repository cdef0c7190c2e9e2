use Rattle.std.proofs.Common.{sym}
use Rattle.tx_command.specs.declared.types.Command.TheVariants.{Assign}
use Rattle.tx_main.proofs.Carrying.{carries}
use Rattle.tx_main.proofs.stomach.TexStomach.carry_made_out.Goals as goal

pub returns-in-Some : goal.returns-in-Some
returns-in-Some c =
    carries c.args.s.now c.assign.new.s c.take_assignment.new.self (Assign c.in-Some.assignment) c.assign.result (sym c.in-Some.ensures) c.assign.ensures

pub returns-in-None : goal.returns-in-None
returns-in-None c =
    carries c.args.s.now c.carry_other_out.new.s c.take_assignment.new.self c.take_assignment.new.self c.carry_other_out.result c.in-None.ensures c.carry_other_out.ensures
