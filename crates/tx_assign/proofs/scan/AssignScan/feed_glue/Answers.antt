use Rattle.std.proofs.Common.{◌∷◌, ◌++◌, ◌+◌, []}
use Rattle.tx_seen.specs.declared.item.Item.TheVariants.{Took}
use Rattle.tx_scan.specs.GlueRests as glues
use Rattle.tx_assign.specs.declared.scan.AssignStage.TheVariants.{Glue}
use Rattle.tx_assign.specs.Assignments.{elastic}
use Rattle.tx_assign.specs.Rests.{more_needed}
use Rattle.tx_assign.proofs.Givens.{glue-ends, glue-more, glue-need, glue-wrong}
use Rattle.tx_assign.proofs.Numbers.{end-needs, end-waits}
use Rattle.tx_assign.proofs.scan.AssignScan.feed_glue.Goals as goal

pub returns-in-More-clause-answer : goal.returns-in-More-clause-answer
returns-in-More-clause-answer c = λ behind h.
    glue-more c.args.self.now c.feed.new.self c.args.purpose (glues.held c.args.self.now.glue + 1) (λ more. glues.rest c.args.self.now.glue behind (Took c.args.token.now) more) (behind ++ Took c.args.token.now ∷ []) c.in-More.want ((rw c.in-More.is at c.in_ok-want.ensures.part) behind h)

pub returns-in-Need-clause-answer : goal.returns-in-Need-clause-answer
returns-in-Need-clause-answer c = λ behind h.
    glue-need c.args.self.now c.feed.new.self c.args.purpose (glues.held c.args.self.now.glue + 1) (λ more. glues.rest c.args.self.now.glue behind (Took c.args.token.now) more) (behind ++ Took c.args.token.now ∷ []) c.in-Need.kind ((rw c.in-Need.is at c.in_ok-want.ensures.part) behind h)

pub returns-in-Done-clause-answer : goal.returns-in-Done-clause-answer
returns-in-Done-clause-answer c =
    glue-ends c.end_glue.new.self c.args.self.now.glue c.feed.new.self c.args.purpose c.args.self.now.place c.args.token.now c.in-Done.glue c.in-Done.back c.end_glue.result (rw c.in-Done.is at c.in_ok-want.ensures.part) c.end_glue.ensures

pub returns-in-Wrong-clause-answer : goal.returns-in-Wrong-clause-answer
returns-in-Wrong-clause-answer c = λ behind h.
    glue-wrong (record c.args.self.now { stage = Glue c.args.purpose; glue = c.feed.new.self }) c.feed.new.self c.args.purpose c.args.self.now.place (glues.held c.args.self.now.glue + 1) (λ more. glues.rest c.args.self.now.glue behind (Took c.args.token.now) more) (behind ++ Took c.args.token.now ∷ []) c.in-Wrong.error ((rw c.in-Wrong.is at c.in_ok-want.ensures.part) behind h)

pub returns-in-Need-clause-waits : goal.returns-in-Need-clause-waits
returns-in-Need-clause-waits c = rw c.in-Need.is at c.in_ok-want.ensures.waits

pub returns-in-Done-clause-waits : goal.returns-in-Done-clause-waits
returns-in-Done-clause-waits c =
    end-waits (elastic c.args.purpose c.args.self.now.place c.in-Done.glue) c.in-Done.back c.end_glue.new.self c.end_glue.result c.end_glue.ensures

pub returns-in-Done-clause-needed : goal.returns-in-Done-clause-needed
returns-in-Done-clause-needed c =
    end-needs (glues.more_needed c.args.self.now.glue) (more_needed c.end_glue.new.self) (elastic c.args.purpose c.args.self.now.place c.in-Done.glue) c.in-Done.back c.end_glue.new.self c.end_glue.result c.end_glue.ensures
