use Rattle.std.proofs.Common.{rules}
use Rattle.tx_seen.specs.declared.fed.Want.TheVariants.{Expanded}
use Rattle.tx_rule.proofs.RuleSteps.{start-on, start-named, side-letters, whole-fewer}
use Rattle.tx_rule.proofs.scans.RuleScan.feed_start.Goals as goal

pub feed_name-requires : goal.feed_name-requires
feed_name-requires c = rw c.new.ensures.scan (side-letters c.in-Some.side)

pub returns-then-is_space-clause-fed : goal.returns-then-is_space-clause-fed
returns-then-is_space-clause-fed c = start-on c.args.self.now c.args.token.now c.requires (search rules) (search rules)

pub returns-then-is_space-clause-fewer : goal.returns-then-is_space-clause-fewer
returns-then-is_space-clause-fewer c = whole-fewer 0 c.args.self.now Expanded c.requires

pub returns-in-Some-clause-fed : goal.returns-in-Some-clause-fed
returns-in-Some-clause-fed c =
    start-named c.args.self.now.rule c.args.token.now c.in-Some.side c.new.result c.feed_name.new.self c.feed_name.result (search rules) (search rules) (search rules) c.new.ensures.scan c.feed_name.ensures.fed
