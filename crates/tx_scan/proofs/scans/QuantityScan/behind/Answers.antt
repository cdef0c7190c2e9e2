use Rattle.tx_scan.proofs.ParameterSteps.{parameter-fed, parameter-needs}
use Rattle.tx_scan.proofs.QuantitySteps.{number-fed}
use Rattle.tx_scan.proofs.scans.QuantityScan.behind.Goals as goal

pub returns-in_ok-fed-in-Number-clause-fed : goal.returns-in_ok-fed-in-Number-clause-fed
returns-in_ok-fed-in-Number-clause-fed c =
    number-fed c.args.self.now (record c.args.self.now { number = c.feed.new.self }) c.numbered.new.self c.in-Number.sought c.args.token.now c.in_ok-fed-in-Number.fed c.numbered.result
    c.in-Number.is c.in-Number.is c.in_ok-fed-in-Number.ensures.fed c.numbered.ensures

pub returns-in_ok-fed-in-Parameter-clause-fed : goal.returns-in_ok-fed-in-Parameter-clause-fed
returns-in_ok-fed-in-Parameter-clause-fed c =
    parameter-fed c.args.self.now (record c.args.self.now { number = c.feed-in-Parameter.new.self }) c.parameter.new.self c.args.token.now c.in_ok-fed-in-Parameter.fed c.parameter.result
    c.in-Parameter.is c.in-Parameter.is c.in_ok-fed-in-Parameter.ensures.fed c.in_ok-fed-in-Parameter.ensures.told c.parameter.ensures

pub returns-in_ok-fed-in-Parameter-clause-needed : goal.returns-in_ok-fed-in-Parameter-clause-needed
returns-in_ok-fed-in-Parameter-clause-needed c =
    parameter-needs c.args.self.now (record c.args.self.now { number = c.feed-in-Parameter.new.self }) c.parameter.new.self c.in_ok-fed-in-Parameter.fed c.parameter.result
    c.in-Parameter.is c.in-Parameter.is c.in_ok-fed-in-Parameter.ensures.waits c.parameter.ensures
