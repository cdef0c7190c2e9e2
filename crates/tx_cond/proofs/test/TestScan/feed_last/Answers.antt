use Rattle.std.proofs.Common.{rules, to_z, of_z, w64}
use Rattle.tx_cond.proofs.Lefts.{last-more, last-need, last-wrong, last-done}
use Rattle.tx_cond.proofs.test.TestScan.feed_last.Goals as goal

pub returns-in-More-clause-fed : goal.returns-in-More-clause-fed
returns-in-More-clause-fed c =
    last-more c.args.self.now c.feed.new.self c.args.judged c.args.token.now c.in-More.want c.requires (rw c.in-More.is at c.in_ok-want.ensures.fed)

pub returns-in-Need-clause-fed : goal.returns-in-Need-clause-fed
returns-in-Need-clause-fed c =
    last-need c.args.self.now c.feed.new.self c.args.judged c.args.token.now c.in-Need.kind c.requires (rw c.in-Need.is at c.in_ok-want.ensures.fed)

pub returns-in-Done-clause-fed : goal.returns-in-Done-clause-fed
returns-in-Done-clause-fed c =
    last-done c.args.self.now c.args.self.now c.feed.new.self c.args.judged c.args.token.now c.in-Done.number (to_z w64 (of_z w64 c.judgement.result)) c.in-Done.back c.requires (rw c.in-Done.is at c.in_ok-want.ensures.fed) (search rules)

pub returns-in-Wrong-clause-fed : goal.returns-in-Wrong-clause-fed
returns-in-Wrong-clause-fed c =
    last-wrong c.args.self.now c.args.self.now c.feed.new.self c.args.judged c.args.token.now c.in-Wrong.error c.requires (rw c.in-Wrong.is at c.in_ok-want.ensures.fed)

pub returns-in-More-clause-needed : goal.returns-in-More-clause-needed
returns-in-More-clause-needed c = rw c.requires (rw c.in-More.is at c.in_ok-want.ensures.needed)

pub returns-in-Need-clause-needed : goal.returns-in-Need-clause-needed
returns-in-Need-clause-needed c = rw c.requires (rw c.in-Need.is at c.in_ok-want.ensures.needed)
