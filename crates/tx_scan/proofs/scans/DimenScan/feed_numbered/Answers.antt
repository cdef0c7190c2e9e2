use Rattle.std.proofs.Common.{rules}
use Rattle.tx_scan.proofs.Quantities.{numbered-begins}
use Rattle.tx_scan.proofs.scans.DimenScan.feed_numbered.Goals as goal

pub returns-clause-fed : goal.returns-clause-fed
returns-clause-fed c =
    numbered-begins c.args.self.now c.numbered.new.self c.feed_unit.new.self c.args.number c.magnitude.result c.args.token.now c.feed_unit.result
    (search rules) (search rules) c.feed_unit.ensures.fed
