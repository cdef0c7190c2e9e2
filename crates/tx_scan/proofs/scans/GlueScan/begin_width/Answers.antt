use Rattle.std.proofs.Common.{rules}
use Rattle.tx_scan.specs.declared.scans.GluePart.TheVariants.{Width}
use Rattle.tx_scan.specs.declared.scans.GlueStage.TheVariants.{Size}
use Rattle.tx_scan.proofs.GlueBegins.{width-begins, width-needs}
use Rattle.tx_scan.proofs.scans.GlueScan.begin_width.Goals as goal

pub returns-clause-fed : goal.returns-clause-fed
returns-clause-fed c =
    width-begins c.args.self.now (record c.args.self.now { stage = Size Width; size = c.restart_behind.new.self }) c.feed_size.new.self c.args.negative c.args.token.now c.feed_size.result (search rules) c.feed_size.ensures.part

pub returns-clause-needed : goal.returns-clause-needed
returns-clause-needed c =
    width-needs c.args.self.now (record c.args.self.now { stage = Size Width; size = c.restart_behind.new.self }) c.feed_size.new.self c.args.negative c.feed_size.result (search rules) c.feed_size.ensures.needed
