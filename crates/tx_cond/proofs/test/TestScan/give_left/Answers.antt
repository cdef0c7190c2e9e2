use Rattle.std.proofs.Common.{rules, to_z, of_z, w64}
use Rattle.tx_cond.proofs.Givens.{left-more, left-need, left-wrong, left-ends, left-ends-before, ends-alone, ends-seen, ends-unseen}
use Rattle.tx_cond.proofs.test.TestScan.give_left.Goals as goal

pub returns-in-More-clause-part : goal.returns-in-More-clause-part
returns-in-More-clause-part c =
    left-more c.args.comparand c.args.self.now c.give.new.self c.args.value.now c.in-More.want c.requires (rw c.in-More.is at c.in_ok-want.ensures.given)

pub returns-in-Need-clause-part : goal.returns-in-Need-clause-part
returns-in-Need-clause-part c =
    left-need c.args.comparand c.args.self.now c.give.new.self c.args.value.now c.in-Need.wanted c.requires (rw c.in-Need.is at c.in_ok-want.ensures.given)

pub returns-in-Done-default-eq0-clause-part : goal.returns-in-Done-default-eq0-clause-part
returns-in-Done-default-eq0-clause-part c =
    left-ends c.args.comparand c.args.self.now c.to_relation.new.self c.give.new.self c.args.value.now c.in-Done-default-eq0.number (to_z w64 (of_z w64 c.in-Done-default-eq0.number)) c.in-Done-default-eq0.field-1 c.to_relation.result
    c.requires (rw c.in-Done-default-eq0.is at c.in_ok-want.ensures.given)
    (ends-alone c.args.self.now c.give.new.self c.args.value.now c.in-Done-default-eq0.number c.in-Done-default-eq0.field-1 (rw c.in-Done-default-eq0.is at c.in_ok-want.ensures.given) (search rules))
    (search rules) c.to_relation.ensures.answer

pub returns-in-Some-clause-part : goal.returns-in-Some-clause-part
returns-in-Some-clause-part c =
    left-ends-before c.args.comparand c.args.self.now c.feed_relation.new.self c.give.new.self c.args.value.now c.in-Done.number (to_z w64 (of_z w64 c.in-Done.number)) c.in-Done.field-1 c.in-Some.token c.feed_relation.result
    c.requires (rw c.in-Done.is at c.in_ok-want.ensures.given)
    (ends-seen c.args.self.now c.give.new.self c.args.value.now c.in-Done.number c.in-Done.field-1 c.in-Some.token (rw c.in-Done.is at c.in_ok-want.ensures.given) (search rules) (search rules))
    (search rules) c.feed_relation.ensures.answer

pub returns-in-None-clause-part : goal.returns-in-None-clause-part
returns-in-None-clause-part c =
    left-ends c.args.comparand c.args.self.now c.to_relation-in-None.new.self c.give.new.self c.args.value.now c.in-Done.number (to_z w64 (of_z w64 c.in-Done.number)) c.in-Done.field-1 c.to_relation-in-None.result
    c.requires (rw c.in-Done.is at c.in_ok-want.ensures.given)
    (ends-unseen c.args.self.now (search rules))
    (search rules) c.to_relation-in-None.ensures.answer

pub returns-in-Wrong-clause-part : goal.returns-in-Wrong-clause-part
returns-in-Wrong-clause-part c =
    left-wrong c.args.comparand c.args.self.now c.args.self.now c.give.new.self c.args.value.now c.in-Wrong.error c.requires (rw c.in-Wrong.is at c.in_ok-want.ensures.given)

pub returns-in-More-clause-fewer : goal.returns-in-More-clause-fewer
returns-in-More-clause-fewer c = rw c.requires (rw c.in-More.is at c.in_ok-want.ensures.fewer)

pub returns-in-Need-clause-fewer : goal.returns-in-Need-clause-fewer
returns-in-Need-clause-fewer c = rw c.requires (rw c.in-Need.is at c.in_ok-want.ensures.fewer)
