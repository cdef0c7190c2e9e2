use Rattle.tx_scan.proofs.GlueSteps.{plus-first, minus-first, shrunk-before}
use Rattle.tx_scan.proofs.scans.GlueScan.sized_before.Goals as goal

pub returns-in-Width-clause-fed : goal.returns-in-Width-clause-fed
returns-in-Width-clause-fed c =
    rw c.in-Width.is
    (plus-first c.args.self.now.mu c.args.self.now.glue c.with_size-self.result c.args.measure c.args.token.now c.feed_plus.new.self c.feed_plus.result (rw c.in-Width.is at c.with_size-self.ensures) c.feed_plus.ensures.fed)

pub returns-in-Stretch-clause-fed : goal.returns-in-Stretch-clause-fed
returns-in-Stretch-clause-fed c =
    rw c.in-Stretch.is
    (minus-first c.args.self.now.mu c.args.self.now.glue c.with_size-self.result c.args.measure c.args.token.now c.feed_minus.new.self c.feed_minus.result (rw c.in-Stretch.is at c.with_size-self.ensures) c.feed_minus.ensures.fed)

pub returns-in-Shrink-clause-fed : goal.returns-in-Shrink-clause-fed
returns-in-Shrink-clause-fed c =
    rw c.in-Shrink.is (shrunk-before c.args.self.now.mu c.args.self.now.glue c.with_size-self.result c.args.measure c.args.token.now (record c.args.self.now { glue = c.with_size-self.result }) (rw c.in-Shrink.is at c.with_size-self.ensures))
