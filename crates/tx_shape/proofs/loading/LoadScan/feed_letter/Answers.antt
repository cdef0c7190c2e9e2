use Rattle.std.proofs.Common.{rules}
use Rattle.tx_shape.proofs.LoadSteps.{before-needs, begins-waits, second-blank, second-needs, second-not, second-there, second-undefined, whole-needs, whole-waits}
use Rattle.tx_shape.proofs.loading.LoadScan.feed_letter.Goals as goal

pub returns-then-is_undefined-clause-reads : goal.returns-then-is_undefined-clause-reads
returns-then-is_undefined-clause-reads c =
    second-undefined c.args.self.now.place c.args.self.now.name c.args.blank c.args.token.now c.args.self.now (search rules)

pub returns-then-is_key-clause-reads : goal.returns-then-is_key-clause-reads
returns-then-is_key-clause-reads c =
    rw c.on.ensures.answer (second-there c.args.blank c.args.token.now c.args.self.now c.on.new.self c.restart.new.self (search rules) (search rules) c.restart.ensures.scan c.on.ensures.scan)

pub returns-then-is_key-clause-needs : goal.returns-then-is_key-clause-needs
returns-then-is_key-clause-needs c =
    rw c.on.ensures.answer (second-needs c.args.self.now c.on.new.self c.restart.new.self c.restart.ensures.scan c.on.ensures.scan)

pub returns-then-blank-clause-reads : goal.returns-then-blank-clause-reads
returns-then-blank-clause-reads c =
    second-blank c.args.self.now.place c.args.self.now.name c.args.blank c.args.token.now c.feed_other.new.self c.feed_other.result (search rules) (search rules) (search rules) c.feed_other.ensures

pub returns-then-blank-clause-needs : goal.returns-then-blank-clause-needs
returns-then-blank-clause-needs c =
    before-needs _ c.args.token.now c.feed_other.new.self c.feed_other.result c.feed_other.ensures

pub returns-then-blank-clause-waits : goal.returns-then-blank-clause-waits
returns-then-blank-clause-waits c =
    begins-waits _ c.feed_other.new.self c.args.token.now c.feed_other.result c.feed_other.ensures

pub returns-else-blank-clause-reads : goal.returns-else-blank-clause-reads
returns-else-blank-clause-reads c =
    second-not c.args.self.now.place c.args.self.now.name c.args.blank c.args.token.now c.args.self.now c.whole.result (search rules) (search rules) (search rules) c.whole.ensures

pub returns-else-blank-clause-needs : goal.returns-else-blank-clause-needs
returns-else-blank-clause-needs c =
    whole-needs _ _ 0 _ c.whole.result c.whole.ensures

pub returns-else-blank-clause-waits : goal.returns-else-blank-clause-waits
returns-else-blank-clause-waits c =
    whole-waits _ _ c.args.self.now c.whole.result c.whole.ensures
