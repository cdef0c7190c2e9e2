use Rattle.tx_rule.specs.Rests.{rule_needed}
use Rattle.tx_scan.proofs.Behind.{none-needs}
use Rattle.tx_rule.proofs.RuleSteps.{name-part}
use Rattle.tx_rule.proofs.scans.RuleScan.feed.Goals as goal

pub returns-in-Start-clause-needed : goal.returns-in-Start-clause-needed
returns-in-Start-clause-needed c = none-needs (rule_needed c.args.self.now) (rule_needed c.feed_start.new.self) c.feed_start.result c.feed_start.ensures.fewer

pub returns-in-Name-clause-fed : goal.returns-in-Name-clause-fed
returns-in-Name-clause-fed c = name-part c.args.self.now c.in-Name.side c.in-Name.scan c.args.token.now c.feed_name.new.self c.feed_name.result c.in-Name.is c.feed_name.ensures.fed

pub returns-in-Name-clause-needed : goal.returns-in-Name-clause-needed
returns-in-Name-clause-needed c = none-needs (rule_needed c.args.self.now) (rule_needed c.feed_name.new.self) c.feed_name.result c.feed_name.ensures.fewer
