use Rattle.tx_cond.proofs.Registers.{register-fed, register-needs}
use Rattle.tx_cond.proofs.test.TestScan.feed_register.Goals as goal

pub returns-clause-fed : goal.returns-clause-fed
returns-clause-fed c =
    rw c.answered.ensures (register-fed c.args.self.now c.feed.new.self c.args.token.now c.in_ok-feed.field-0 c.requires c.in_ok-feed.ensures.fed)

pub returns-clause-needed : goal.returns-clause-needed
returns-clause-needed c =
    rw c.answered.ensures (register-needs c.args.self.now c.feed.new.self c.in_ok-feed.field-0 c.requires c.in_ok-feed.ensures.needed)
