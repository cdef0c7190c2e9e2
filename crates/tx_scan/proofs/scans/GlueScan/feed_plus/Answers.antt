use Rattle.std.proofs.Common.{refl, rules}
use Rattle.tx_scan.specs.declared.scans.GlueStage.TheVariants as stage
use Rattle.tx_scan.proofs.GlueSteps.{held-within, plus-more, plus-there, plus-gone, plus-over, plus-wrong}
use Rattle.tx_scan.proofs.scans.GlueScan.feed_plus.Goals as goal

pub plus_read-requires-clause-within : goal.plus_read-requires-clause-within
plus_read-requires-clause-within c = c.in-More.ensures.reading (search rules)

pub plus_read-requires-clause-few : goal.plus_read-requires-clause-few
plus_read-requires-clause-few c =
    rw c.held_on-held.ensures (held-within c.args.plus.held c.args.plus.read c.feed.new.self.read c.args.token.now c.in-More.want (search rules) c.in-More.ensures.spelled)

pub returns-in-More-clause-fed : goal.returns-in-More-clause-fed
returns-in-More-clause-fed c =
    plus-more c.args.self.now.mu c.args.self.now.glue c.args.plus.held c.args.plus.read c.feed.new.self.read c.held_on-held.result c.args.token.now c.in-More.want c.plus_read.result (record c.args.self.now { stage = stage.Plus c.plus_read.result })
    refl c.plus_read.ensures.read c.plus_read.ensures.held refl refl c.held_on-held.ensures (search rules) (c.in-More.ensures.reading (search rules)) c.in-More.ensures.part c.in-More.ensures.spelled

pub returns-in-Done-true-default-clause-fed : goal.returns-in-Done-true-default-clause-fed
returns-in-Done-true-default-clause-fed c =
    plus-there c.args.self.now.mu c.args.self.now.glue c.args.plus.held c.args.plus.read c.in-Done-true-default.field-1 c.in-Done-true-default.field-0 c.args.token.now c.feed.new.self c.begin_size.new.self c.begin_size.result
    (search rules) (search rules) (search rules) c.in-Done-true-default.ensures.part c.in-Done-true-default.ensures.reading c.begin_size.ensures.fed

pub returns-then-plus-eq0-clause-fed : goal.returns-then-plus-eq0-clause-fed
returns-then-plus-eq0-clause-fed c =
    plus-gone c.args.self.now.mu c.args.self.now.glue c.args.plus.held c.args.plus.read c.in-Done-false-default.field-1 c.in-Done-false-default.field-0 c.args.token.now c.feed.new.self c.feed_minus.new.self c.feed_minus.result
    (search rules) (search rules) c.in-Done-false-default.ensures.part c.in-Done-false-default.ensures.gone c.feed_minus.ensures.fed

pub returns-else-plus-eq0-clause-fed : goal.returns-else-plus-eq0-clause-fed
returns-else-plus-eq0-clause-fed c =
    plus-over c.args.self.now.mu c.args.self.now.glue c.args.plus.held c.args.plus.read _ c.in-Done-false-default.field-1 c.in-Done-false-default.field-0 c.args.token.now c.feed.new.self c.args.self.now
    (search rules) (search rules) refl (search rules) c.in-Done-false-default.ensures.part c.in-Done-false-default.ensures.gone

pub returns-in-Wrong-clause-fed : goal.returns-in-Wrong-clause-fed
returns-in-Wrong-clause-fed c =
    plus-wrong c.args.self.now.mu c.args.self.now.glue c.args.plus.held c.args.plus.read c.args.token.now c.feed.new.self c.in-Wrong.error c.args.self.now (search rules) c.in-Wrong.ensures.part
