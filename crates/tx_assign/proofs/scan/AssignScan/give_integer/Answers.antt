use Rattle.std.proofs.Common.{rules, to_z, of_z, w64}
use Rattle.tx_assign.specs.Assignments.{valued}
use Rattle.tx_assign.specs.Rests.{more_needed}
use Rattle.tx_assign.proofs.Givens.{integer-done}
use Rattle.tx_assign.proofs.Numbers.{end-fewer, end-waits, few-given}
use Rattle.tx_assign.proofs.scan.AssignScan.give_integer.Goals as goal

pub returns-in-Need-clause-waits : goal.returns-in-Need-clause-waits
returns-in-Need-clause-waits c =
    rw c.requires.stage (tt, few-given c.args.self.now.integer c.give.new.self c.args.value.now c.in-Need.wanted (rw c.requires.stage at c.requires.few) (rw c.in-Need.is at c.give.ensures.given))

pub returns-in-Done-clause-waits : goal.returns-in-Done-clause-waits
returns-in-Done-clause-waits c =
    end-waits (valued c.args.purpose c.args.self.now.place (to_z w64 (of_z w64 c.in-Done.number))) c.in-Done.back c.end_integer.new.self c.end_integer.result c.end_integer.ensures

pub returns-in-Done-clause-part : goal.returns-in-Done-clause-part
returns-in-Done-clause-part c =
    integer-done c.args.self.now c.end_integer.new.self c.give.new.self c.args.purpose c.args.value.now c.in-Done.number (to_z w64 (of_z w64 c.in-Done.number)) c.in-Done.back c.end_integer.result
    c.requires.stage (rw c.in-Done.is at c.give.ensures.given) (search rules) c.end_integer.ensures

pub returns-in-Done-clause-fewer : goal.returns-in-Done-clause-fewer
returns-in-Done-clause-fewer c =
    end-fewer (more_needed c.args.self.now) (more_needed c.end_integer.new.self) (valued c.args.purpose c.args.self.now.place (to_z w64 (of_z w64 c.in-Done.number))) c.in-Done.back c.end_integer.new.self c.end_integer.result c.end_integer.ensures
