use Rattle.std.proofs.Common.{rules}
use Rattle.tx_scan.proofs.IntegerSteps.{font-told}
use Rattle.tx_scan.proofs.scans.IntScan.to_font.Goals as goal

pub returns-in-Some-clause-font : goal.returns-in-Some-clause-font
returns-in-Some-clause-font c =
    rw c.to_font_value.ensures.answer
    (font-told c.args.self.now c.to_font_value.new.self c.args.sought c.in-Some.font c.args.held (search rules) c.in-Some.is c.to_font_value.ensures.scan)
