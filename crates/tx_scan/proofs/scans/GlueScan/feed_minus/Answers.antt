use Rattle.std.proofs.Common.{refl, rules}
use Rattle.tx_scan.specs.declared.scans.GlueStage.TheVariants as stage
use Rattle.tx_scan.proofs.GlueSteps.{minus-more, minus-there, minus-over, minus-wrong}
use Rattle.tx_scan.proofs.scans.GlueScan.feed_minus.Goals as goal

pub minus_read-requires : goal.minus_read-requires
minus_read-requires c = c.in-More.ensures.reading (search rules)

pub returns-in-More-clause-fed : goal.returns-in-More-clause-fed
returns-in-More-clause-fed c =
    minus-more c.args.self.now.mu c.args.self.now.glue c.args.minus.read c.feed.new.self.read c.args.token.now c.in-More.want c.minus_read.result (record c.args.self.now { stage = stage.Minus c.minus_read.result })
    refl c.minus_read.ensures refl refl c.in-More.ensures.part

pub returns-in-Done-true-default-clause-fed : goal.returns-in-Done-true-default-clause-fed
returns-in-Done-true-default-clause-fed c =
    minus-there c.args.self.now.mu c.args.self.now.glue c.args.minus.read c.in-Done-true-default.field-1 c.in-Done-true-default.field-0 c.args.token.now c.feed.new.self c.begin_size.new.self c.begin_size.result
    (search rules) (search rules) c.in-Done-true-default.ensures.part c.in-Done-true-default.ensures.reading c.begin_size.ensures.fed

pub returns-in-Done-false-default-clause-fed : goal.returns-in-Done-false-default-clause-fed
returns-in-Done-false-default-clause-fed c =
    minus-over c.args.self.now.mu c.args.self.now.glue c.args.minus.read c.in-Done-false-default.back c.in-Done-false-default.field-0 c.args.token.now c.feed.new.self c.args.self.now
    (search rules) c.in-Done-false-default.ensures.part

pub returns-in-Wrong-clause-fed : goal.returns-in-Wrong-clause-fed
returns-in-Wrong-clause-fed c =
    minus-wrong c.args.self.now.mu c.args.self.now.glue c.args.minus.read c.args.token.now c.feed.new.self c.in-Wrong.error c.args.self.now c.in-Wrong.ensures.part
