use Rattle.tx_scan.specs.DimensionRests as sizes
use Rattle.tx_scan.specs.IntegerRests as integers
use Rattle.tx_scan.proofs.Behind.{given-one}
use Rattle.tx_shape.proofs.LoadSteps.{number-fewer, number-given, number-waits, size-fewer, size-given, size-waits}
use Rattle.tx_shape.proofs.loading.LoadScan.give.Goals as goal

pub returns-in_ok-fed-in-Size-clause-given : goal.returns-in_ok-fed-in-Size-clause-given
returns-in_ok-fed-in-Size-clause-given c =
    λ behind. size-given c.args.self.now c.give.new.self c.args.value.now behind c.in_ok-fed-in-Size.fed c.sized.result c.in-Size.is c.requires.1 c.in_ok-fed-in-Size.ensures.part c.sized.ensures

pub returns-in_ok-fed-in-Size-clause-needs : goal.returns-in_ok-fed-in-Size-clause-needs
returns-in_ok-fed-in-Size-clause-needs c =
    size-fewer c.args.self.now c.give.new.self c.in_ok-fed-in-Size.fed c.sized.result c.in-Size.is c.in_ok-fed-in-Size.ensures.fewer c.sized.ensures

pub returns-in_ok-fed-in-Size-clause-waits : goal.returns-in_ok-fed-in-Size-clause-waits
returns-in_ok-fed-in-Size-clause-waits c =
    size-waits c.args.self.now c.give.new.self c.in_ok-fed-in-Size.fed c.sized.result c.in-Size.is (given-one sizes.rest sizes.held c.args.self.now.size c.give.new.self c.args.value.now c.in_ok-fed-in-Size.fed (rw c.in-Size.is at c.requires.1) c.in_ok-fed-in-Size.ensures.part) c.sized.ensures

pub returns-in-Number-clause-given : goal.returns-in-Number-clause-given
returns-in-Number-clause-given c =
    λ behind. number-given c.args.self.now c.give-fed.new.self c.args.value.now behind c.give-fed.result c.scaled.result c.in-Number.is c.requires.1 c.give-fed.ensures.part c.scaled.ensures

pub returns-in-Number-clause-needs : goal.returns-in-Number-clause-needs
returns-in-Number-clause-needs c =
    number-fewer c.args.self.now c.give-fed.new.self c.give-fed.result c.scaled.result c.in-Number.is c.give-fed.ensures.fewer c.scaled.ensures

pub returns-in-Number-clause-waits : goal.returns-in-Number-clause-waits
returns-in-Number-clause-waits c =
    number-waits c.args.self.now c.give-fed.new.self c.give-fed.result c.scaled.result c.in-Number.is (given-one integers.rest integers.held c.args.self.now.number c.give-fed.new.self c.args.value.now c.give-fed.result (rw c.in-Number.is at c.requires.1) c.give-fed.ensures.part) c.scaled.ensures
