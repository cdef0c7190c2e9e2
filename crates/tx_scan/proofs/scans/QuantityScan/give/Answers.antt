use Rattle.tx_scan.proofs.ParameterSteps.{parameter-fewer, parameter-given}
use Rattle.tx_scan.proofs.QuantitySteps.{number-given}
use Rattle.tx_scan.proofs.scans.QuantityScan.give.Goals as goal

pub returns-in-Number-clause-part : goal.returns-in-Number-clause-part
returns-in-Number-clause-part c =
    number-given c.args.self.now (record c.args.self.now { number = c.give-fed.new.self }) c.numbered.new.self c.in-Number.sought c.args.value.now c.give-fed.result c.numbered.result
    c.in-Number.is c.in-Number.is c.give-fed.ensures.given c.numbered.ensures

pub returns-in-Parameter-clause-part : goal.returns-in-Parameter-clause-part
returns-in-Parameter-clause-part c =
    parameter-given c.args.self.now (record c.args.self.now { number = c.give-fed-in-Parameter.new.self }) c.parameter.new.self c.args.value.now c.give-fed-in-Parameter.result c.parameter.result
    c.in-Parameter.is c.in-Parameter.is c.give-fed-in-Parameter.ensures.given c.give-fed-in-Parameter.ensures.behind c.parameter.ensures

pub returns-in-Parameter-clause-fewer : goal.returns-in-Parameter-clause-fewer
returns-in-Parameter-clause-fewer c =
    parameter-fewer c.args.self.now (record c.args.self.now { number = c.give-fed-in-Parameter.new.self }) c.parameter.new.self c.give-fed-in-Parameter.result c.parameter.result
    c.in-Parameter.is c.in-Parameter.is c.give-fed-in-Parameter.ensures.fewer c.parameter.ensures
