use Rattle.std.proofs.Common.{rules}
use Rattle.tx_seen.specs.declared.fed.Want.TheVariants.{Expanded}
use Rattle.tx_rule.specs.Rests.{rule_needed}
use Rattle.tx_scan.proofs.Behind.{none-needs}
use Rattle.tx_rule.proofs.RuleSteps.{size-more, size-need, size-wrong, size-whole, size-before, size-needs-more, size-needs, size-waits, whole-needs}
use Rattle.tx_rule.proofs.scans.RuleScan.feed_size.Goals as goal

pub returns-in-More-clause-fed : goal.returns-in-More-clause-fed
returns-in-More-clause-fed c = size-more c.args.self.now c.feed.new.self c.args.side c.args.token.now c.in-More.want c.requires (rw c.in-More.is at c.in_ok-want.ensures.part)

pub returns-in-More-clause-needed : goal.returns-in-More-clause-needed
returns-in-More-clause-needed c = size-needs-more c.args.self.now c.feed.new.self c.args.side c.in-More.want c.requires (rw c.in-More.is at c.in_ok-want.ensures.needed)

pub returns-in-Need-clause-fed : goal.returns-in-Need-clause-fed
returns-in-Need-clause-fed c = size-need c.args.self.now c.feed.new.self c.args.side c.args.token.now c.in-Need.kind c.requires (rw c.in-Need.is at c.in_ok-want.ensures.part)

pub returns-in-Need-clause-needed : goal.returns-in-Need-clause-needed
returns-in-Need-clause-needed c = size-needs c.args.self.now c.feed.new.self c.args.side c.in-Need.kind c.requires (rw c.in-Need.is at c.in_ok-want.ensures.needed)

pub returns-in-Need-clause-on : goal.returns-in-Need-clause-on
returns-in-Need-clause-on c = size-waits c.args.self.now c.feed.new.self c.args.side c.args.token.now c.in-Need.kind c.requires (rw c.in-Need.is at c.in_ok-want.ensures.fed)

pub returns-in-Done-default-eq0-clause-fed : goal.returns-in-Done-default-eq0-clause-fed
returns-in-Done-default-eq0-clause-fed c =
    rw c.sized.ensures.answer
    (size-whole c.args.self.now c.sized.new.self c.feed.new.self c.args.side c.in-Done-default-eq0.measure c.args.token.now c.in-Done-default-eq0.field-1 c.requires
    (rw c.in-Done-default-eq0.is at c.in_ok-want.ensures.fed) (search rules) c.sized.ensures.rule c.sized.ensures.part)

pub returns-in-Done-default-eq0-clause-needed : goal.returns-in-Done-default-eq0-clause-needed
returns-in-Done-default-eq0-clause-needed c = rw c.sized.ensures.answer (whole-needs (rule_needed c.args.self.now) c.sized.new.self Expanded c.sized.ensures.part)

pub returns-in-Done-clause-fed : goal.returns-in-Done-clause-fed
returns-in-Done-clause-fed c =
    size-before c.args.self.now c.sized_before.new.self c.feed.new.self c.args.side c.in-Done.measure c.args.token.now c.in-Done.field-1 c.sized_before.result c.requires
    (rw c.in-Done.is at c.in_ok-want.ensures.fed) (search rules) c.sized_before.ensures.fed

pub returns-in-Done-clause-needed : goal.returns-in-Done-clause-needed
returns-in-Done-clause-needed c = none-needs (rule_needed c.args.self.now) (rule_needed c.sized_before.new.self) c.sized_before.result c.sized_before.ensures.fewer

pub returns-in-Wrong-clause-fed : goal.returns-in-Wrong-clause-fed
returns-in-Wrong-clause-fed c = size-wrong c.args.self.now (record c.args.self.now { size = c.feed.new.self }) c.feed.new.self c.args.side c.args.token.now c.in-Wrong.error c.requires (rw c.in-Wrong.is at c.in_ok-want.ensures.part)
