use Rattle.std.proofs.Common.{rules, to_z, of_z, w64}
use Rattle.tx_cond.proofs.Lefts.{left-more, left-need, left-wrong, left-ends, left-ends-before}
use Rattle.tx_cond.proofs.test.TestScan.feed_left.Goals as goal

pub returns-in-More-clause-fed : goal.returns-in-More-clause-fed
returns-in-More-clause-fed c =
    left-more c.args.comparand c.args.self.now c.feed.new.self c.args.token.now c.in-More.want c.requires (rw c.in-More.is at c.in_ok-want.ensures.fed)

pub returns-in_ok-clone-in-Need-clause-fed : goal.returns-in_ok-clone-in-Need-clause-fed
returns-in_ok-clone-in-Need-clause-fed c =
    left-need c.args.comparand c.args.self.now c.feed.new.self c.args.token.now c.in_ok-clone-in-Need.field-0 c.in-Need.wanted c.requires c.in_ok-clone-in-Need.ensures.cases (rw c.in-Need.is at c.in_ok-want.ensures.fed)

pub returns-in-Done-default-eq0-clause-fed : goal.returns-in-Done-default-eq0-clause-fed
returns-in-Done-default-eq0-clause-fed c =
    left-ends c.args.comparand c.args.self.now c.to_relation.new.self c.feed.new.self c.args.token.now c.in-Done-default-eq0.number (to_z w64 (of_z w64 c.in-Done-default-eq0.number)) c.in-Done-default-eq0.field-1 c.to_relation.result
    c.requires (rw c.in-Done-default-eq0.is at c.in_ok-want.ensures.fed) (search rules) (search rules) (c.to_relation.ensures.answer c.args.token.now)

pub returns-in-Done-clause-fed : goal.returns-in-Done-clause-fed
returns-in-Done-clause-fed c =
    left-ends-before c.args.comparand c.args.self.now c.feed_relation.new.self c.feed.new.self c.args.token.now c.in-Done.number (to_z w64 (of_z w64 c.in-Done.number)) c.in-Done.field-1 c.feed_relation.result
    c.requires (rw c.in-Done.is at c.in_ok-want.ensures.fed) (search rules) (search rules) c.feed_relation.ensures.answer

pub returns-in-Wrong-clause-fed : goal.returns-in-Wrong-clause-fed
returns-in-Wrong-clause-fed c =
    left-wrong c.args.comparand c.args.self.now c.args.self.now c.feed.new.self c.args.token.now c.in-Wrong.error c.requires (rw c.in-Wrong.is at c.in_ok-want.ensures.fed)

pub returns-in-More-clause-needed : goal.returns-in-More-clause-needed
returns-in-More-clause-needed c = rw c.requires (rw c.in-More.is at c.in_ok-want.ensures.needed)

pub returns-in_ok-clone-in-Need-clause-needed : goal.returns-in_ok-clone-in-Need-clause-needed
returns-in_ok-clone-in-Need-clause-needed c = rw c.requires (rw c.in-Need.is at c.in_ok-want.ensures.needed)
