use Rattle.std.proofs.Common.{rules}
use Rattle.tx_scan.proofs.UnitSpaces.{whole-ends}
use Rattle.tx_scan.proofs.scans.DimenScan.feed_digit.Goals as goal

pub returns-clause-fed : goal.returns-clause-fed
returns-clause-fed c =
    whole-ends c.args.self.now c.feed_unit.new.self c.args.constant c.clear.new.self c.args.token.now c.feed_unit.result
    c.requires c.feed_unit.ensures.fed (search rules) (search rules) (search rules)
