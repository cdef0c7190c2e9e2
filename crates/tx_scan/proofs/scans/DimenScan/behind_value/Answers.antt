use Rattle.tx_scan.proofs.FontUnits.{font-given}
use Rattle.tx_scan.proofs.Mathematical.{mu-given}
use Rattle.tx_scan.proofs.scans.DimenScan.behind_value.Goals as goal

pub returns-in-Mathematical-clause-part : goal.returns-in-Mathematical-clause-part
returns-in-Mathematical-clause-part c =
    mu-given c.args.self.now c.give-fed.new.self c.in-Mathematical.amount c.args.value.now c.give-fed.result c.mathematical.result
    c.in-Mathematical.is c.give-fed.ensures.part c.mathematical.ensures.answer

pub returns-in-FontUnit-clause-part : goal.returns-in-FontUnit-clause-part
returns-in-FontUnit-clause-part c =
    font-given c.args.self.now c.args.self.now c.in-FontUnit.whole c.in-FontUnit.field-1 c.in-FontUnit.held c.args.value.now c.give_font_unit.result
    c.in-FontUnit.is c.give_font_unit.ensures.end
