use Rattle.std.proofs.Common.{rules}
use Rattle.tx_scan.proofs.FontUnits.{font-asks, mathematical-end, physical-end}
use Rattle.tx_scan.proofs.scans.DimenScan.feed_end.Goals as goal

pub returns-in-Physical-clause-fed : goal.returns-in-Physical-clause-fed
returns-in-Physical-clause-fed c =
    physical-end c.args.self.now c.args.self.now c.args.whole _ c.in-Physical.unit c.args.token.now c.told.result
    (search rules) (search rules) (search rules) c.told.ensures.end

pub returns-in-Mathematical-clause-fed : goal.returns-in-Mathematical-clause-fed
returns-in-Mathematical-clause-fed c =
    mathematical-end c.args.self.now c.args.self.now c.args.whole _ c.args.token.now c.told-in-Mathematical.result
    (search rules) (search rules) (search rules) c.told-in-Mathematical.ensures.end

pub returns-in-Font-clause-fed : goal.returns-in-Font-clause-fed
returns-in-Font-clause-fed c =
    font-asks c.args.self.now c.to_font_unit.new.self c.args.whole c.in-Font.size c.args.token.now _ c.to_font_unit.result
    (search rules) (search rules) (search rules) c.to_font_unit.ensures.scan c.to_font_unit.ensures.answer
