use Rattle.tx_assign.proofs.Operands.{by-begun}
use Rattle.tx_assign.proofs.scan.AssignScan.to_place.Goals as goal

pub returns-in-Some-clause-answer : goal.returns-in-Some-clause-answer
returns-in-Some-clause-answer c = λ t.
    by-begun c.args.operation c.in-Some.operation c.args.self.now c.on-in-Some.new.self c.new.result t c.on-in-Some.result c.in-Some.is c.new.ensures.scan c.on-in-Some.ensures.scan c.on-in-Some.ensures.answer
