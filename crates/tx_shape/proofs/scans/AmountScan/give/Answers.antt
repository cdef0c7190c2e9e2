use Rattle.tx_shape.proofs.Amounts.{number-fewer, parameter-fewer, penalty-fewer, register-fewer, size-fewer}
use Rattle.tx_shape.proofs.scans.AmountScan.give.Goals as goal

pub returns-in-Penalty-clause-needs : goal.returns-in-Penalty-clause-needs
returns-in-Penalty-clause-needs c =
    rw c.penalized.ensures (penalty-fewer c.args.self.now c.give.new.self c.give.result c.in-Penalty.is c.give.ensures.fewer)

pub returns-in-Register-clause-needs : goal.returns-in-Register-clause-needs
returns-in-Register-clause-needs c =
    rw c.registered.ensures (register-fewer c.in-Register.registering c.args.self.now c.give-in-Register.new.self c.give-in-Register.result c.in-Register.is c.give-in-Register.ensures.fewer)

pub returns-in_ok-give-in-Size-clause-needs : goal.returns-in_ok-give-in-Size-clause-needs
returns-in_ok-give-in-Size-clause-needs c =
    rw c.sized.ensures (size-fewer c.in-Size.sizing c.args.self.now c.give-in-Size.new.self c.in_ok-give-in-Size.field-0 c.in-Size.is c.in_ok-give-in-Size.ensures.fewer)

pub returns-in-Number-clause-needs : goal.returns-in-Number-clause-needs
returns-in-Number-clause-needs c =
    rw c.set.ensures (number-fewer c.in-Number.setting c.args.self.now c.give-in-Number.new.self c.give-in-Number.result c.in-Number.is c.give-in-Number.ensures.fewer)

pub returns-in-FontDimen-clause-needs : goal.returns-in-FontDimen-clause-needs
returns-in-FontDimen-clause-needs c =
    rw c.parametered.ensures (parameter-fewer c.args.self.now c.give-in-FontDimen.new.self c.args.value.now c.give-in-FontDimen.result c.in-FontDimen.is c.give-in-FontDimen.ensures.part c.give-in-FontDimen.ensures.fewer)
