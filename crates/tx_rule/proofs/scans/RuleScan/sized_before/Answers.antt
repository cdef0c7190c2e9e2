use Rattle.std.proofs.Common.{◌≡◌, ◌∷◌, [], rules, subst}
use Rattle.tx_node.specs.declared.rule.Rule.{Rule}
use Rattle.tx_scan.specs.Rests.{IsRead}
use Rattle.tx_seen.specs.declared.item.Item.TheVariants.{Took}
use Rattle.tx_rule.specs.Rests.{rule_rest, rule_held}
use Rattle.tx_rule.specs.Rules.{rule_sides, with_side}
use Rattle.tx_rule.proofs.scans.RuleScan.sized_before.Goals as goal

pub returns-clause-fed : goal.returns-clause-fed
returns-clause-fed c =
    let same : c.with_side-self.result ≡ with_side c.args.self.now.rule c.args.side c.args.measure.size = search rules in
    subst (λ (r : Rule). IsRead rule_rest rule_held 1 (λ more. rule_sides r (Took c.args.token.now ∷ more)) (Took c.args.token.now ∷ []) c.feed_start.new.self c.feed_start.result) same c.feed_start.ensures.fed
