use Rattle.std.proofs.Common.{rules}
use Rattle.tx_scan.proofs.IntegerSteps.{whole-font}
use Rattle.tx_scan.proofs.scans.IntScan.whole.Goals as goal

pub returns-in-FontDimen-clause-whole : goal.returns-in-FontDimen-clause-whole
returns-in-FontDimen-clause-whole c =
    whole-font c.in-Some.outer c.pop.new.self c.args.self.now.outers c.args.self.now.behind c.args.number c.parameter.result c.args.held c.to_font.new.self c.to_font.result
    c.in-Some.ensures c.in-FontDimen.is (search rules) c.to_font.ensures.font
