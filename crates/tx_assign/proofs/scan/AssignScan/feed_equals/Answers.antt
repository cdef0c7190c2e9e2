use Rattle.std.proofs.Common.{rules, lit≤, ◌∷◌}
use Rattle.tx_seen.specs.declared.item.Item.TheVariants.{Took}
use Rattle.tx_seen.specs.declared.fed.Fed.TheVariants as fed
use Rattle.tx_assign.specs.declared.scan.AssignStage.TheVariants.{Equals}
use Rattle.tx_assign.specs.Assignments.{given}
use Rattle.tx_assign.proofs.Steps.{to-behind}
use Rattle.tx_assign.proofs.Parts.{equals-more, equals-ends, equals-ends-before, equals-wrong}
use Rattle.tx_assign.proofs.scan.AssignScan.feed_equals.Goals as goal

pub returns-in-More-clause-answer : goal.returns-in-More-clause-answer
returns-in-More-clause-answer c =
    to-behind 0 (λ more. given c.args.purpose c.args.self.now.place (Took c.args.token.now ∷ more)) c.args.token.now (record c.args.self.now { stage = Equals c.args.purpose }) (fed.More c.in-More.want) (lit≤ tt) (equals-more c.args.self.now c.feed.new.self c.args.purpose c.args.token.now c.in-More.want (rw c.in-More.is at c.feed.ensures.fed))

pub returns-in-Done-default-eq0-clause-answer : goal.returns-in-Done-default-eq0-clause-answer
returns-in-Done-default-eq0-clause-answer c =
    to-behind 0 (λ more. given c.args.purpose c.args.self.now.place (Took c.args.token.now ∷ more)) c.args.token.now c.to_value.new.self c.to_value.result (lit≤ tt)
    (equals-ends c.to_value.new.self c.feed.new.self c.args.purpose c.args.self.now.place c.args.token.now c.in-Done-default-eq0.field-0 c.in-Done-default-eq0.field-1 c.to_value.result
    (rw c.in-Done-default-eq0.is at c.feed.ensures.fed) (search rules) (c.to_value.ensures.answer c.args.token.now))

pub returns-in-Done-clause-answer : goal.returns-in-Done-clause-answer
returns-in-Done-clause-answer c =
    equals-ends-before c.feed_value.new.self c.feed.new.self c.args.purpose c.args.self.now.place c.args.token.now c.in-Done.field-0 c.in-Done.field-1 c.feed_value.result
    (rw c.in-Done.is at c.feed.ensures.fed) (search rules) c.feed_value.ensures.answer

pub returns-in-Wrong-clause-answer : goal.returns-in-Wrong-clause-answer
returns-in-Wrong-clause-answer c =
    equals-wrong c.args.self.now c.feed.new.self c.args.purpose c.args.self.now.place c.args.token.now c.in-Wrong.error (rw c.in-Wrong.is at c.feed.ensures.fed)
