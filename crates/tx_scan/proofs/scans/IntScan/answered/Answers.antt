use Rattle.std.proofs.Common.{rules}
use Rattle.tx_scan.proofs.IntegerSteps.{value-given}
use Rattle.tx_scan.proofs.scans.IntScan.answered.Goals as goal

pub returns-in-Ok-clause-given : goal.returns-in-Ok-clause-given
returns-in-Ok-clause-given c =
    value-given c.args.self.now c.whole.new.self c.args.value.now c.in-Ok.number _ c.in-Given.held c.whole.result
    c.in-Given.is (search rules) (search rules) c.whole.ensures.whole
