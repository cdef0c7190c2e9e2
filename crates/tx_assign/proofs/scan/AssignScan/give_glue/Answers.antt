use Rattle.tx_seen.specs.declared.item.Item.TheVariants.{Gave}
use Rattle.tx_scan.specs.Rests.{kept}
use Rattle.tx_scan.specs.GlueRests as glues
use Rattle.tx_assign.specs.declared.scan.AssignStage.TheVariants.{Glue}
use Rattle.tx_assign.specs.Assignments.{elastic}
use Rattle.tx_assign.specs.Rests.{more_needed}
use Rattle.tx_assign.proofs.Givens.{glue-done, glue-more, glue-need, glue-wrong}
use Rattle.tx_assign.proofs.Numbers.{end-fewer, end-waits}
use Rattle.tx_assign.proofs.scan.AssignScan.give_glue.Goals as goal

pub returns-in-More-clause-part : goal.returns-in-More-clause-part
returns-in-More-clause-part c = rw c.requires.stage
    (glue-more c.args.self.now c.give.new.self c.args.purpose (glues.held c.args.self.now.glue) (λ more. glues.rest c.args.self.now.glue (kept (glues.held c.args.self.now.glue) c.args.behind.now) (Gave c.args.value.now) more) (kept (glues.held c.args.self.now.glue) c.args.behind.now) c.in-More.want (rw c.in-More.is at c.in_ok-want.ensures.given))

pub returns-in-Need-clause-part : goal.returns-in-Need-clause-part
returns-in-Need-clause-part c = rw c.requires.stage
    (glue-need c.args.self.now c.give.new.self c.args.purpose (glues.held c.args.self.now.glue) (λ more. glues.rest c.args.self.now.glue (kept (glues.held c.args.self.now.glue) c.args.behind.now) (Gave c.args.value.now) more) (kept (glues.held c.args.self.now.glue) c.args.behind.now) c.in-Need.wanted (rw c.in-Need.is at c.in_ok-want.ensures.given))

pub returns-in-Done-clause-part : goal.returns-in-Done-clause-part
returns-in-Done-clause-part c = rw c.requires.stage
    (glue-done c.end_glue.new.self c.give.new.self c.args.purpose c.args.self.now.place (glues.held c.args.self.now.glue) (λ more. glues.rest c.args.self.now.glue (kept (glues.held c.args.self.now.glue) c.args.behind.now) (Gave c.args.value.now) more) (kept (glues.held c.args.self.now.glue) c.args.behind.now) c.in-Done.glue c.in-Done.back c.end_glue.result (rw c.in-Done.is at c.in_ok-want.ensures.given) c.end_glue.ensures)

pub returns-in-Wrong-clause-part : goal.returns-in-Wrong-clause-part
returns-in-Wrong-clause-part c = rw c.requires.stage
    (glue-wrong (record c.args.self.now { stage = Glue c.args.purpose; glue = c.give.new.self }) c.give.new.self c.args.purpose c.args.self.now.place (glues.held c.args.self.now.glue) (λ more. glues.rest c.args.self.now.glue (kept (glues.held c.args.self.now.glue) c.args.behind.now) (Gave c.args.value.now) more) (kept (glues.held c.args.self.now.glue) c.args.behind.now) c.in-Wrong.error (rw c.in-Wrong.is at c.in_ok-want.ensures.given))

pub returns-in-Need-clause-waits : goal.returns-in-Need-clause-waits
returns-in-Need-clause-waits c = rw c.requires.stage (rw c.in-Need.is at c.in_ok-want.ensures.waits)

pub returns-in-Done-clause-waits : goal.returns-in-Done-clause-waits
returns-in-Done-clause-waits c =
    end-waits (elastic c.args.purpose c.args.self.now.place c.in-Done.glue) c.in-Done.back c.end_glue.new.self c.end_glue.result c.end_glue.ensures

pub returns-in-Done-clause-fewer : goal.returns-in-Done-clause-fewer
returns-in-Done-clause-fewer c =
    end-fewer (more_needed c.args.self.now) (more_needed c.end_glue.new.self) (elastic c.args.purpose c.args.self.now.place c.in-Done.glue) c.in-Done.back c.end_glue.new.self c.end_glue.result c.end_glue.ensures
