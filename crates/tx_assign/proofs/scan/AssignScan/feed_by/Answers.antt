use Rattle.std.proofs.Common.{rules, lit≤}
use Rattle.tx_seen.specs.declared.item.Item.TheVariants.{Took}
use Rattle.tx_seen.specs.declared.fed.Fed.TheVariants as fed
use Rattle.tx_assign.specs.declared.scan.AssignStage.TheVariants.{By}
use Rattle.tx_assign.specs.Rests.{by_rest}
use Rattle.tx_assign.proofs.Steps.{to-behind}
use Rattle.tx_assign.proofs.Operands.{by-more, by-ends, by-before, by-none}
use Rattle.tx_assign.proofs.scan.AssignScan.feed_by.Goals as goal

pub returns-in-More-clause-answer : goal.returns-in-More-clause-answer
returns-in-More-clause-answer c =
    to-behind 0 (λ more. by_rest c.args.word c.args.operation c.args.self.now.place (Took c.args.token.now) more) c.args.token.now (record c.args.self.now { stage = By c.args.operation c.feed.new.self }) (fed.More c.in-More.want) (lit≤ tt) (by-more c.args.self.now c.args.word c.feed.new.self c.args.operation c.args.token.now c.in-More.want c.in-More.ensures.part c.in-More.ensures.gone)

pub returns-in-Done-true-eq0-clause-answer : goal.returns-in-Done-true-eq0-clause-answer
returns-in-Done-true-eq0-clause-answer c =
    to-behind 0 (λ more. by_rest c.args.word c.args.operation c.args.self.now.place (Took c.args.token.now) more) c.args.token.now c.to_value.new.self c.to_value.result (lit≤ tt)
    (by-ends c.to_value.new.self c.args.word c.feed.new.self c.args.operation c.args.self.now.place c.args.token.now c.in-Done-true-eq0.field-0 c.in-Done-true-eq0.field-1 c.to_value.result c.in-Done-true-eq0.ensures.part
    (search rules) (search rules) (c.to_value.ensures.answer c.args.token.now))

pub returns-in-Done-true-default-clause-answer : goal.returns-in-Done-true-default-clause-answer
returns-in-Done-true-default-clause-answer c =
    by-before c.feed_value.new.self c.args.word c.feed.new.self c.args.operation c.args.self.now.place c.args.token.now c.in-Done-true-default.field-0 c.in-Done-true-default.field-1 c.feed_value.result c.in-Done-true-default.ensures.part
    (search rules) (search rules) c.feed_value.ensures.answer

pub returns-in-Done-false-eq1-clause-answer : goal.returns-in-Done-false-eq1-clause-answer
returns-in-Done-false-eq1-clause-answer c =
    by-none c.feed_value-in-Done-false-eq1.new.self c.args.word c.feed.new.self c.args.operation c.args.self.now.place c.args.token.now c.in-Done-false-eq1.field-0 c.in-Done-false-eq1.field-1 c.feed_value-in-Done-false-eq1.result c.in-Done-false-eq1.ensures.part c.in-Done-false-eq1.ensures.gone
    (search rules) (search rules) c.feed_value-in-Done-false-eq1.ensures.answer
