use Rattle.std.proofs.Common.{rules, to_z, of_z, w64}
use Rattle.tx_assign.proofs.Numbers.{few-held, number-more, number-need, number-wrong, number-ends, number-ends-before}
use Rattle.tx_assign.proofs.scan.AssignScan.feed_number.Goals as goal

pub returns-in-More-clause-part : goal.returns-in-More-clause-part
returns-in-More-clause-part c =
    number-more c.args.self.now c.feed.new.self c.args.kind c.args.operation c.args.token.now c.in-More.want c.requires (rw c.in-More.is at c.in_ok-want.ensures.fed)

pub returns-in-Need-clause-part : goal.returns-in-Need-clause-part
returns-in-Need-clause-part c =
    number-need c.args.self.now c.feed.new.self c.args.kind c.args.operation c.args.token.now c.in-Need.wanted c.requires (rw c.in-Need.is at c.in_ok-want.ensures.fed)

pub returns-in-Need-clause-waits : goal.returns-in-Need-clause-waits
returns-in-Need-clause-waits c =
    rw c.requires (tt, few-held c.args.self.now.integer c.feed.new.self c.args.token.now c.in-Need.wanted (rw c.in-Need.is at c.in_ok-want.ensures.fed))

pub returns-in-Done-default-eq0-clause-part : goal.returns-in-Done-default-eq0-clause-part
returns-in-Done-default-eq0-clause-part c =
    number-ends c.args.self.now c.end_number.new.self c.feed.new.self c.args.kind c.args.operation c.args.token.now c.in-Done-default-eq0.number (to_z w64 (of_z w64 c.in-Done-default-eq0.number)) c.in-Done-default-eq0.field-1 c.end_number.result
    c.requires (rw c.in-Done-default-eq0.is at c.in_ok-want.ensures.fed) (search rules) (search rules) (c.end_number.ensures.answer c.args.token.now)

pub returns-in-Done-clause-part : goal.returns-in-Done-clause-part
returns-in-Done-clause-part c =
    number-ends-before c.args.self.now c.feed_behind_number.new.self c.feed.new.self c.args.kind c.args.operation c.args.token.now c.in-Done.number (to_z w64 (of_z w64 c.in-Done.number)) c.in-Done.field-1 c.feed_behind_number.result
    c.requires (rw c.in-Done.is at c.in_ok-want.ensures.fed) (search rules) (search rules) c.feed_behind_number.ensures.answer

pub returns-in-Wrong-clause-part : goal.returns-in-Wrong-clause-part
returns-in-Wrong-clause-part c =
    number-wrong c.args.self.now c.args.self.now c.feed.new.self c.args.kind c.args.operation c.args.token.now c.in-Wrong.error c.requires (rw c.in-Wrong.is at c.in_ok-want.ensures.fed)
