use Rattle.std.proofs.Common.{rules, refl}
use Rattle.tx_shape.specs.declared.loading.LoadStage.TheVariants as stage
use Rattle.tx_shape.proofs.LoadSteps.{before-needs, begins-waits, whole-needs, whole-waits, word-before, word-lost, word-more, word-needs, word-there, word-wrong}
use Rattle.tx_shape.proofs.loading.LoadScan.feed_scaled.Goals as goal

pub returns-in-More-clause-reads : goal.returns-in-More-clause-reads
returns-in-More-clause-reads c =
    word-more c.args.key c.feed.new.self c.args.token.now (record c.args.self.now { stage = stage.Scaled c.feed.new.self }) c.in-More.want c.in-More.ensures.part refl

pub returns-in-Done-true-eq0-clause-reads : goal.returns-in-Done-true-eq0-clause-reads
returns-in-Done-true-eq0-clause-reads c =
    rw c.on.ensures.answer (word-there c.args.key c.feed.new.self c.args.token.now c.args.self.now c.on.new.self c.restart.new.self c.in-Done-true-eq0.field-0 c.in-Done-true-eq0.field-1 c.in-Done-true-eq0.ensures.part (search rules) (search rules) c.restart.ensures.scan c.on.ensures.scan)

pub returns-in-Done-true-eq0-clause-needs : goal.returns-in-Done-true-eq0-clause-needs
returns-in-Done-true-eq0-clause-needs c =
    rw c.on.ensures.answer (word-needs c.args.self.now c.on.new.self c.restart.new.self c.restart.ensures.scan c.on.ensures.scan)

pub returns-in-Done-true-default-clause-reads : goal.returns-in-Done-true-default-clause-reads
returns-in-Done-true-default-clause-reads c =
    word-before c.args.self.now.place c.args.self.now.name c.args.key c.feed.new.self c.args.token.now c.begin_number.new.self c.in-Done-true-default.field-0 c.in-Done-true-default.field-1 c.begin_number.result c.in-Done-true-default.ensures.reading (search rules) (search rules) c.begin_number.ensures

pub returns-in-Done-true-default-clause-needs : goal.returns-in-Done-true-default-clause-needs
returns-in-Done-true-default-clause-needs c =
    before-needs _ c.args.token.now c.begin_number.new.self c.begin_number.result c.begin_number.ensures

pub returns-in-Done-true-default-clause-waits : goal.returns-in-Done-true-default-clause-waits
returns-in-Done-true-default-clause-waits c =
    begins-waits _ c.begin_number.new.self c.args.token.now c.begin_number.result c.begin_number.ensures

pub returns-in-Done-false-default-clause-reads : goal.returns-in-Done-false-default-clause-reads
returns-in-Done-false-default-clause-reads c =
    word-lost c.args.self.now.place c.args.self.now.name c.args.key c.feed.new.self c.args.token.now c.args.self.now c.in-Done-false-default.field-0 c.in-Done-false-default.back c.whole.result c.in-Done-false-default.ensures.part (search rules) c.whole.ensures

pub returns-in-Done-false-default-clause-needs : goal.returns-in-Done-false-default-clause-needs
returns-in-Done-false-default-clause-needs c =
    whole-needs _ _ 0 _ c.whole.result c.whole.ensures

pub returns-in-Done-false-default-clause-waits : goal.returns-in-Done-false-default-clause-waits
returns-in-Done-false-default-clause-waits c =
    whole-waits _ _ c.args.self.now c.whole.result c.whole.ensures

pub returns-in-Wrong-clause-reads : goal.returns-in-Wrong-clause-reads
returns-in-Wrong-clause-reads c =
    word-wrong c.args.self.now.place c.args.self.now.name c.args.key c.feed.new.self c.args.token.now c.args.self.now c.in-Wrong.error c.in-Wrong.ensures.part
