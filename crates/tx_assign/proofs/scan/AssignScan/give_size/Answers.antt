use Rattle.tx_seen.specs.declared.fed.Fed.TheVariants as fed
use Rattle.tx_scan.proofs.Behind.{given-one}
use Rattle.tx_assign.specs.Assignments.{sized}
use Rattle.tx_assign.specs.Rests.{rest, held, more_needed}
use Rattle.tx_assign.proofs.Numbers.{end-fewer, end-waits}
use Rattle.tx_assign.proofs.Givens.{size-more, size-need, size-wrong, size-done}
use Rattle.tx_assign.proofs.scan.AssignScan.give_size.Goals as goal

pub returns-in-More-clause-part : goal.returns-in-More-clause-part
returns-in-More-clause-part c =
    size-more c.args.self.now c.give.new.self c.args.purpose c.args.value.now c.in-More.want c.requires.stage (rw c.in-More.is at c.in_ok-want.ensures.part)

pub returns-in-Need-clause-part : goal.returns-in-Need-clause-part
returns-in-Need-clause-part c =
    size-need c.args.self.now c.give.new.self c.args.purpose c.args.value.now c.in-Need.wanted c.requires.stage (rw c.in-Need.is at c.in_ok-want.ensures.part)

pub returns-in-Done-clause-part : goal.returns-in-Done-clause-part
returns-in-Done-clause-part c =
    size-done c.args.self.now c.end_size.new.self c.give.new.self c.args.purpose c.args.value.now c.in-Done.measure c.in-Done.back c.end_size.result
    c.requires.stage (rw c.in-Done.is at c.in_ok-want.ensures.part) c.end_size.ensures

pub returns-in-Wrong-clause-part : goal.returns-in-Wrong-clause-part
returns-in-Wrong-clause-part c =
    size-wrong c.args.self.now c.args.self.now c.give.new.self c.args.purpose c.args.value.now c.in-Wrong.error c.requires.stage (rw c.in-Wrong.is at c.in_ok-want.ensures.part)

pub returns-in-Need-clause-waits : goal.returns-in-Need-clause-waits
returns-in-Need-clause-waits c =
    (rw c.requires.stage tt, given-one rest held c.args.self.now (record c.args.self.now { size = c.give.new.self }) c.args.value.now (fed.Need c.in-Need.wanted) c.requires.few (size-need c.args.self.now c.give.new.self c.args.purpose c.args.value.now c.in-Need.wanted c.requires.stage (rw c.in-Need.is at c.in_ok-want.ensures.part)))

pub returns-in-Done-clause-waits : goal.returns-in-Done-clause-waits
returns-in-Done-clause-waits c =
    end-waits (sized c.args.purpose c.args.self.now.place c.in-Done.measure) c.in-Done.back c.end_size.new.self c.end_size.result c.end_size.ensures

pub returns-in-Done-clause-fewer : goal.returns-in-Done-clause-fewer
returns-in-Done-clause-fewer c =
    end-fewer (more_needed c.args.self.now) (more_needed c.end_size.new.self) (sized c.args.purpose c.args.self.now.place c.in-Done.measure) c.in-Done.back c.end_size.new.self c.end_size.result c.end_size.ensures
