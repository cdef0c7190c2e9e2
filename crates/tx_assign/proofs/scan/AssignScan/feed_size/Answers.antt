use Rattle.std.proofs.Common.{rules}
use Rattle.tx_scan.specs.DimensionRests as sizes
use Rattle.tx_seen.specs.declared.item.Item.TheVariants.{Took}
use Rattle.tx_assign.specs.Assignments.{sized}
use Rattle.tx_assign.specs.Rests.{more_needed}
use Rattle.tx_assign.proofs.Numbers.{end-all, end-needs, end-waits, few-held-size}
use Rattle.tx_assign.proofs.Parts.{size-more, size-need, size-wrong}
use Rattle.tx_assign.proofs.scan.AssignScan.feed_size.Goals as goal

pub returns-in-More-clause-answer : goal.returns-in-More-clause-answer
returns-in-More-clause-answer c =
    size-more c.args.self.now c.feed.new.self c.args.purpose c.args.token.now c.in-More.want (rw c.in-More.is at c.in_ok-want.ensures.fed)

pub returns-in-Need-clause-answer : goal.returns-in-Need-clause-answer
returns-in-Need-clause-answer c =
    size-need c.args.self.now c.feed.new.self c.args.purpose c.args.token.now c.in-Need.kind (rw c.in-Need.is at c.in_ok-want.ensures.fed)

pub returns-in-Done-clause-answer : goal.returns-in-Done-clause-answer
returns-in-Done-clause-answer c =
    end-all sizes.rest sizes.held (sizes.most c.args.self.now.size) (λ behind more. sizes.rest c.args.self.now.size behind (Took c.args.token.now) more) (sized c.args.purpose c.args.self.now.place) c.args.token.now c.feed.new.self c.end_size.new.self c.in-Done.measure c.in-Done.measure c.in-Done.back c.end_size.result
    (rw c.in-Done.is at c.in_ok-want.ensures.fed) (search rules) c.end_size.ensures

pub returns-in-Wrong-clause-answer : goal.returns-in-Wrong-clause-answer
returns-in-Wrong-clause-answer c =
    size-wrong c.args.self.now c.args.self.now c.feed.new.self c.args.purpose c.args.token.now c.in-Wrong.error (rw c.in-Wrong.is at c.in_ok-want.ensures.fed)

pub returns-in-Need-clause-waits : goal.returns-in-Need-clause-waits
returns-in-Need-clause-waits c =
    (tt, few-held-size c.args.self.now.size c.feed.new.self c.args.token.now c.in-Need.kind (rw c.in-Need.is at c.in_ok-want.ensures.fed))

pub returns-in-Done-clause-waits : goal.returns-in-Done-clause-waits
returns-in-Done-clause-waits c =
    end-waits (sized c.args.purpose c.args.self.now.place c.in-Done.measure) c.in-Done.back c.end_size.new.self c.end_size.result c.end_size.ensures

pub returns-in-Done-clause-needed : goal.returns-in-Done-clause-needed
returns-in-Done-clause-needed c =
    end-needs (sizes.more_needed c.args.self.now.size) (more_needed c.end_size.new.self) (sized c.args.purpose c.args.self.now.place c.in-Done.measure) c.in-Done.back c.end_size.new.self c.end_size.result c.end_size.ensures
