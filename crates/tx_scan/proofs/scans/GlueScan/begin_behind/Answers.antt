use Rattle.std.proofs.Common.{rules}
use Rattle.tx_scan.specs.declared.scans.GlueStage.TheVariants.{Quantity}
use Rattle.tx_scan.proofs.GlueBegins.{glue-behind, width-behind}
use Rattle.tx_scan.proofs.scans.GlueScan.begin_behind.Goals as goal

pub returns-then-not-is_elastic-clause-fed : goal.returns-then-not-is_elastic-clause-fed
returns-then-not-is_elastic-clause-fed c =
    width-behind c.args.self.now c.begin_width.new.self c.args.negative c.args.kind c.args.token.now c.begin_width.result (search rules) c.begin_width.ensures.fed

pub returns-clause-fed : goal.returns-clause-fed
returns-clause-fed c =
    glue-behind c.args.self.now (record c.args.self.now { stage = Quantity c.args.negative; size = record c.args.self.now.size { quantity = c.begin_behind-fed.new.self } }) c.args.negative c.args.kind c.args.token.now c.internal.result (search rules) (search rules) (search rules)
