use Rattle.tx_shape.proofs.Amounts.{number-fed, parameter-fed, parameter-needs, penalty-fed, register-fed, size-fed}
use Rattle.tx_shape.proofs.scans.AmountScan.feed.Goals as goal

pub returns-in_ok-feed-in-Penalty-clause-fed : goal.returns-in_ok-feed-in-Penalty-clause-fed
returns-in_ok-feed-in-Penalty-clause-fed c =
    rw c.penalized.ensures (penalty-fed c.args.self.now c.feed.new.self c.args.token.now c.in_ok-feed-in-Penalty.field-0 c.in-Penalty.is c.in_ok-feed-in-Penalty.ensures.fed)

pub returns-in_ok-feed-in-Register-clause-fed : goal.returns-in_ok-feed-in-Register-clause-fed
returns-in_ok-feed-in-Register-clause-fed c =
    rw c.registered.ensures (register-fed c.in-Register.registering c.args.self.now c.feed-in-Register.new.self c.args.token.now c.in_ok-feed-in-Register.field-0 c.in-Register.is c.in_ok-feed-in-Register.ensures.fed)

pub returns-in_ok-feed-in-Size-clause-fed : goal.returns-in_ok-feed-in-Size-clause-fed
returns-in_ok-feed-in-Size-clause-fed c =
    rw c.sized.ensures (size-fed c.in-Size.sizing c.args.self.now c.feed-in-Size.new.self c.args.token.now c.in_ok-feed-in-Size.field-0 c.in-Size.is c.in_ok-feed-in-Size.ensures.fed)

pub returns-in_ok-feed-in-Number-clause-fed : goal.returns-in_ok-feed-in-Number-clause-fed
returns-in_ok-feed-in-Number-clause-fed c =
    rw c.set.ensures (number-fed c.in-Number.setting c.args.self.now c.feed-in-Number.new.self c.args.token.now c.in_ok-feed-in-Number.field-0 c.in-Number.is c.in_ok-feed-in-Number.ensures.fed)

pub returns-in_ok-feed-in-FontDimen-clause-fed : goal.returns-in_ok-feed-in-FontDimen-clause-fed
returns-in_ok-feed-in-FontDimen-clause-fed c =
    rw c.parametered.ensures (parameter-fed c.args.self.now c.feed-in-FontDimen.new.self c.args.token.now c.in_ok-feed-in-FontDimen.field-0 c.in-FontDimen.is c.in_ok-feed-in-FontDimen.ensures.fed)

pub returns-in_ok-feed-in-FontDimen-clause-needs : goal.returns-in_ok-feed-in-FontDimen-clause-needs
returns-in_ok-feed-in-FontDimen-clause-needs c =
    rw c.parametered.ensures (parameter-needs c.args.self.now c.feed-in-FontDimen.new.self c.in_ok-feed-in-FontDimen.field-0 c.in-FontDimen.is c.in_ok-feed-in-FontDimen.ensures.holds)
