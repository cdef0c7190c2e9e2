use Rattle.std.proofs.Common.{rules}
use Rattle.tx_scan.proofs.UnitSpaces.{fraction-ends, fraction-goes-on}
use Rattle.tx_scan.proofs.scans.DimenScan.feed_fraction.Goals as goal

pub returns-in_default-clause-fed : goal.returns-in_default-clause-fed
returns-in_default-clause-fed c =
    fraction-ends c.args.self.now c.feed_unit.new.self c.args.whole c.args.token.now c.feed_unit.result
    c.requires c.feed_unit.ensures.fed (search rules)

pub returns-clause-fed : goal.returns-clause-fed
returns-clause-fed c =
    fraction-goes-on c.args.self.now c.args.whole c.in-Some.digit _ c.args.token.now c.requires (search rules) c.in_ok-push.ensures
