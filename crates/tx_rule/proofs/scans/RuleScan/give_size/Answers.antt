use Rattle.std.proofs.Common.{rules}
use Rattle.tx_seen.specs.declared.fed.Want.TheVariants.{Expanded}
use Rattle.tx_rule.specs.Rests.{rule_needed}
use Rattle.tx_scan.proofs.Behind.{none-fewer}
use Rattle.tx_rule.proofs.RuleSteps.{given-more, given-need, given-wrong, given-whole, given-before, given-fewer-more, given-fewer, given-waits, whole-fewer}
use Rattle.tx_rule.proofs.scans.RuleScan.give_size.Goals as goal

pub returns-in-More-clause-given : goal.returns-in-More-clause-given
returns-in-More-clause-given c = given-more c.args.self.now c.give.new.self c.args.side c.args.value.now c.args.behind.now c.in-More.want c.requires.part c.requires.few (rw c.in-More.is at c.in_ok-want.ensures.part)

pub returns-in-More-clause-fewer : goal.returns-in-More-clause-fewer
returns-in-More-clause-fewer c = given-fewer-more c.args.self.now c.give.new.self c.args.side c.in-More.want c.requires.part (rw c.in-More.is at c.in_ok-want.ensures.fewer)

pub returns-in-Need-clause-given : goal.returns-in-Need-clause-given
returns-in-Need-clause-given c = given-need c.args.self.now c.give.new.self c.args.side c.args.value.now c.args.behind.now c.in-Need.kind c.requires.part c.requires.few (rw c.in-Need.is at c.in_ok-want.ensures.part)

pub returns-in-Need-clause-fewer : goal.returns-in-Need-clause-fewer
returns-in-Need-clause-fewer c = given-fewer c.args.self.now c.give.new.self c.args.side c.in-Need.kind c.requires.part (rw c.in-Need.is at c.in_ok-want.ensures.fewer)

pub returns-in-Need-clause-on : goal.returns-in-Need-clause-on
returns-in-Need-clause-on c = given-waits c.args.self.now c.give.new.self c.args.side c.args.value.now c.in-Need.kind c.requires.part c.requires.few (rw c.in-Need.is at c.in_ok-want.ensures.part)

pub returns-in-Done-default-eq0-clause-given : goal.returns-in-Done-default-eq0-clause-given
returns-in-Done-default-eq0-clause-given c =
    rw c.sized.ensures.answer
    (given-whole c.args.self.now c.sized.new.self c.give.new.self c.args.side c.in-Done-default-eq0.measure c.args.value.now c.args.behind.now c.in-Done-default-eq0.field-1 c.requires.part
    (rw c.in-Done-default-eq0.is at c.in_ok-want.ensures.part) (search rules) c.sized.ensures.rule c.sized.ensures.part)

pub returns-in-Done-default-eq0-clause-fewer : goal.returns-in-Done-default-eq0-clause-fewer
returns-in-Done-default-eq0-clause-fewer c = rw c.sized.ensures.answer (whole-fewer (rule_needed c.args.self.now) c.sized.new.self Expanded c.sized.ensures.part)

pub returns-in-Done-clause-given : goal.returns-in-Done-clause-given
returns-in-Done-clause-given c =
    given-before c.args.self.now c.sized_before.new.self c.give.new.self c.args.side c.in-Done.measure c.args.value.now c.args.behind.now c.in-Done.field-1 c.sized_before.result c.requires.part c.requires.few
    (rw c.in-Done.is at c.in_ok-want.ensures.part) (search rules) c.sized_before.ensures.fed

pub returns-in-Done-clause-fewer : goal.returns-in-Done-clause-fewer
returns-in-Done-clause-fewer c = none-fewer (rule_needed c.args.self.now) (rule_needed c.sized_before.new.self) c.sized_before.result c.sized_before.ensures.fewer

pub returns-in-Wrong-clause-given : goal.returns-in-Wrong-clause-given
returns-in-Wrong-clause-given c = given-wrong c.args.self.now (record c.args.self.now { size = c.give.new.self }) c.give.new.self c.args.side c.args.value.now c.args.behind.now c.in-Wrong.error c.requires.part c.requires.few (rw c.in-Wrong.is at c.in_ok-want.ensures.part)
