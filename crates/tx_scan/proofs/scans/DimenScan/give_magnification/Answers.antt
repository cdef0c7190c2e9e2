use Rattle.std.proofs.Common.{rules, refl}
use Rattle.tx_scan.proofs.Mathematical.{true-given}
use Rattle.tx_scan.proofs.scans.DimenScan.give_magnification.Goals as goal

pub returns-in-Magnification-clause-part : goal.returns-in-Magnification-clause-part
returns-in-Magnification-clause-part c =
    rw c.in-Magnification.is
    (true-given c.args.self.now c.on.new.self c.args.whole c.in-Magnification.magnification c.magnified-whole.result _ c.on.result
    c.requires (search rules) (rw c.value.ensures.value at c.magnified-whole.ensures.value) (rw c.value.ensures.value at c.magnified-whole.ensures.many) refl c.on.ensures.scan c.on.ensures.answer)
