use Rattle.std.proofs.Common.{rules}
use Rattle.tx_scan.proofs.Quantities.{unit-begins, unit-in-mu, unit-named}
use Rattle.tx_scan.proofs.scans.DimenScan.feed_unit.Goals as goal

pub returns-then-is_internal-clause-fed : goal.returns-then-is_internal-clause-fed
returns-then-is_internal-clause-fed c =
    unit-begins c.args.self.now.units c.args.self.now.negative c.args.whole c.args.self.now.digits c.restart.new.self c.args.token.now c.feed_quantity.new.self c.feed_quantity.result
    (search rules) (search rules) (search rules) (search rules) c.restart.ensures.scan c.feed_quantity.ensures.fed

pub returns-clause-fed : goal.returns-clause-fed
returns-clause-fed c =
    unit-named c.args.self.now.units c.args.self.now.negative c.args.whole c.args.self.now.digits c.args.token.now c.named.new.self c.named.result
    (search rules) (search rules) (search rules) (rw c.first_letter.ensures at (c.named.ensures.fed c.args.token.now))

pub returns-then-self-clause-fed : goal.returns-then-self-clause-fed
returns-then-self-clause-fed c =
    unit-in-mu c.args.self.now.units c.args.self.now.negative c.args.whole c.args.self.now.digits c.args.token.now c.beginning-begun.result c.begin_mathematical.new.self c.begin_mathematical.result
    (search rules) (search rules) (search rules) (search rules) (search rules) (c.begin_mathematical.ensures.fed c.args.token.now)
