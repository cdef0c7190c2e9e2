use Rattle.tx_scan.proofs.GlueBegins.{internal-fed, internal-waits}
use Rattle.tx_scan.proofs.scans.GlueScan.behind.Goals as goal

pub returns-in_ok-fed-in-Quantity-clause-part : goal.returns-in_ok-fed-in-Quantity-clause-part
returns-in_ok-fed-in-Quantity-clause-part c =
    internal-fed c.args.self.now c.feed.new.self c.in-Quantity.negative c.args.token.now c.in_ok-fed-in-Quantity.fed c.internal.result
    c.in-Quantity.is c.in_ok-fed-in-Quantity.ensures.part c.internal.ensures

pub returns-in_ok-fed-in-Quantity-clause-waits : goal.returns-in_ok-fed-in-Quantity-clause-waits
returns-in_ok-fed-in-Quantity-clause-waits c =
    internal-waits c.args.self.now c.feed.new.self c.in-Quantity.negative c.args.token.now c.in_ok-fed-in-Quantity.fed c.internal.result
    c.in-Quantity.is c.in_ok-fed-in-Quantity.ensures.fed c.internal.ensures
