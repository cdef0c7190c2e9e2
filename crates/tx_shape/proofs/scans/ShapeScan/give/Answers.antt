use Rattle.tx_shape.specs.AmountRests.{amount_needed}
use Rattle.tx_shape.specs.Rests.{needed}
use Rattle.tx_shape.proofs.Amounts.{given-whole, none-waits}
use Rattle.tx_shape.proofs.scans.ShapeScan.give.Goals as goal

pub returns-in_ok-fed-in-Amount-clause-given : goal.returns-in_ok-fed-in-Amount-clause-given
returns-in_ok-fed-in-Amount-clause-given c =
    given-whole c.args.self.now c.go_on.new.self c.give.new.self c.args.value.now c.args.behind.now c.in_ok-fed-in-Amount.fed c.go_on.result c.in-Amount.is c.requires.1 c.in_ok-fed-in-Amount.ensures.given c.go_on.ensures.given

pub returns-in_ok-fed-in-Amount-clause-needs : goal.returns-in_ok-fed-in-Amount-clause-needs
returns-in_ok-fed-in-Amount-clause-needs c =
    rw c.in-Amount.is (c.go_on.ensures.fewer (amount_needed c.args.self.now.amount) c.in_ok-fed-in-Amount.ensures.needs)

pub returns-in-FontRoom-clause-given : goal.returns-in-FontRoom-clause-given
returns-in-FontRoom-clause-given c =
    rw c.in-FontRoom.is c.give_room.ensures.reads

pub returns-in-FontRoom-clause-needs : goal.returns-in-FontRoom-clause-needs
returns-in-FontRoom-clause-needs c =
    rw c.in-FontRoom.is c.give_room.ensures.fewer

pub returns-in-FontRoom-clause-waits : goal.returns-in-FontRoom-clause-waits
returns-in-FontRoom-clause-waits c =
    none-waits c.give_room.new.self (needed c.give_room.new.self) c.give_room.result c.give_room.ensures.fewer
