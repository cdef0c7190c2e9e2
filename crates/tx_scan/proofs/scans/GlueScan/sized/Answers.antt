use Rattle.std.proofs.Common.{ap, ◌∙◌, refl}
use Rattle.tx_scan.specs.declared.scans.GlueScan.{GlueScan}
use Rattle.tx_scan.proofs.GlueSteps.{plus-begun, minus-begun, shrunk-so}
use Rattle.tx_scan.proofs.scans.GlueScan.sized.Goals as goal

pub returns-in-Width-clause-fed : goal.returns-in-Width-clause-fed
returns-in-Width-clause-fed c =
    rw (c.in-Width.is, c.on.ensures.answer)
    (plus-begun c.args.self.now.mu c.args.self.now.glue c.args.measure _ c.on.new.self (ap (λ (x : GlueScan). x.stage) c.on.ensures.scan) refl refl
    (ap (λ (x : GlueScan). x.mu) c.on.ensures.scan) (ap (λ (x : GlueScan). x.glue) c.on.ensures.scan ∙ rw c.in-Width.is at c.with_size-self.ensures))

pub returns-in-Stretch-clause-fed : goal.returns-in-Stretch-clause-fed
returns-in-Stretch-clause-fed c =
    rw (c.in-Stretch.is, c.on-in-Stretch.ensures.answer)
    (minus-begun c.args.self.now.mu c.args.self.now.glue c.args.measure _ c.on-in-Stretch.new.self (ap (λ (x : GlueScan). x.stage) c.on-in-Stretch.ensures.scan) refl
    (ap (λ (x : GlueScan). x.mu) c.on-in-Stretch.ensures.scan) (ap (λ (x : GlueScan). x.glue) c.on-in-Stretch.ensures.scan ∙ rw c.in-Stretch.is at c.with_size-self.ensures))

pub returns-in-Shrink-clause-fed : goal.returns-in-Shrink-clause-fed
returns-in-Shrink-clause-fed c =
    rw c.in-Shrink.is (shrunk-so c.args.self.now.mu c.args.self.now.glue c.with_size-self.result c.args.measure (record c.args.self.now { glue = c.with_size-self.result }) (rw c.in-Shrink.is at c.with_size-self.ensures))
