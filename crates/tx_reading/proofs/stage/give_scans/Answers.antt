use Rattle.tx_command.specs.declared.scans.Whole.TheVariants.{Assignment, Command}
use Rattle.tx_reading.proofs.Stages.{assigned-behind, assign-fewer, assign-goes, shape-behind, shape-fewer, shape-goes}
use Rattle.tx_reading.proofs.Told.{waiting-part}
use Rattle.tx_reading.proofs.stage.give_scans.Goals as goal

pub returns-in_ok-give-in-Assign-clause-given : goal.returns-in_ok-give-in-Assign-clause-given
returns-in_ok-give-in-Assign-clause-given c = λ mode head.
    rw c.assigned.ensures
    (assigned-behind mode head c.args.scans.now (record c.args.scans.now { assignment = c.give.new.self }) c.args.made.now c.args.value.now c.args.behind.now c.in_ok-give-in-Assign.field-0 c.in-Assign.is c.in-Assign.is c.in_ok-give-in-Assign.ensures.part)

pub returns-in_ok-give-in-Assign-clause-needs : goal.returns-in_ok-give-in-Assign-clause-needs
returns-in_ok-give-in-Assign-clause-needs c =
    rw c.assigned.ensures
    (assign-fewer (λ _. Assignment) c.args.scans.now (record c.args.scans.now { assignment = c.give.new.self }) c.in_ok-give-in-Assign.field-0 c.in-Assign.is c.in-Assign.is c.in_ok-give-in-Assign.ensures.fewer)

pub returns-in_ok-give-in-Assign-clause-on : goal.returns-in_ok-give-in-Assign-clause-on
returns-in_ok-give-in-Assign-clause-on c =
    rw c.assigned.ensures
    (assign-goes (λ _. Assignment) (record c.args.scans.now { assignment = c.give.new.self }) c.in_ok-give-in-Assign.field-0 c.in-Assign.is c.in_ok-give-in-Assign.ensures.waits)

pub give_other-requires-clause-part : goal.give_other-requires-clause-part
give_other-requires-clause-part c = waiting-part c.args.scans.now.stage c.args.scans.now c.in_default.not-Assign c.in_default.not-Shape c.requires.0

pub returns-in_ok-give-in-Shape-clause-given : goal.returns-in_ok-give-in-Shape-clause-given
returns-in_ok-give-in-Shape-clause-given c = λ mode head.
    rw (c.put_shaped.ensures.made (record c.args.scans.now { shape = c.give-in-Shape.new.self }))
    (shape-behind mode head c.args.scans.now (record c.args.scans.now { shape = c.give-in-Shape.new.self }) c.args.value.now c.args.behind.now c.in_ok-give-in-Shape.field-0 c.in-Shape.is c.in-Shape.is c.in_ok-give-in-Shape.ensures.given)

pub returns-in_ok-give-in-Shape-clause-needs : goal.returns-in_ok-give-in-Shape-clause-needs
returns-in_ok-give-in-Shape-clause-needs c =
    rw c.put_shaped.ensures.answer
    (shape-fewer (λ _. Command) c.args.scans.now (record c.args.scans.now { shape = c.give-in-Shape.new.self }) c.in_ok-give-in-Shape.field-0 c.in-Shape.is c.in-Shape.is c.in_ok-give-in-Shape.ensures.needs)

pub returns-in_ok-give-in-Shape-clause-on : goal.returns-in_ok-give-in-Shape-clause-on
returns-in_ok-give-in-Shape-clause-on c =
    rw c.put_shaped.ensures.answer
    (shape-goes (λ _. Command) (record c.args.scans.now { shape = c.give-in-Shape.new.self }) c.in_ok-give-in-Shape.field-0 c.in-Shape.is c.in_ok-give-in-Shape.ensures.waits)
