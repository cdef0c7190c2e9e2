use Rattle.tx_scan.proofs.GlueBegins.{internal-given}
use Rattle.tx_scan.proofs.scans.GlueScan.behind_value.Goals as goal

pub returns-in-Quantity-clause-given : goal.returns-in-Quantity-clause-given
returns-in-Quantity-clause-given c =
    internal-given c.args.self.now c.give-fed.new.self c.in-Quantity.negative c.args.value.now c.args.behind.now c.give-fed.result c.internal.result
    c.in-Quantity.is c.requires.few c.give-fed.ensures.part c.internal.ensures
