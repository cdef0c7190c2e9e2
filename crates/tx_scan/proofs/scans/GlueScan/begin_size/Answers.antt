use Rattle.std.proofs.Common.{ap, ◌∙◌}
use Rattle.tx_scan.specs.declared.scans.GlueScan.{GlueScan}
use Rattle.tx_scan.proofs.GlueSteps.{size-begun, size-begun-needs}
use Rattle.tx_scan.proofs.scans.GlueScan.begin_size.Goals as goal

pub returns-clause-fed : goal.returns-clause-fed
returns-clause-fed c =
    rw c.on.ensures.answer
    (size-begun c.args.part c.args.self.now.mu c.args.self.now.glue c.on.new.self (ap (λ (x : GlueScan). x.stage) c.on.ensures.scan) (ap (λ (x : GlueScan). x.size) c.on.ensures.scan ∙ c.restart.ensures.scan)
    (ap (λ (x : GlueScan). x.mu) c.on.ensures.scan) (ap (λ (x : GlueScan). x.glue) c.on.ensures.scan))

pub returns-clause-fewer : goal.returns-clause-fewer
returns-clause-fewer c =
    rw c.on.ensures.answer
    (size-begun-needs c.args.part c.args.self.now.mu c.on.new.self (ap (λ (x : GlueScan). x.stage) c.on.ensures.scan) (ap (λ (x : GlueScan). x.size) c.on.ensures.scan ∙ c.restart.ensures.scan))
