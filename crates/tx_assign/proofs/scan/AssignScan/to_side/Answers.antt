use Rattle.std.proofs.Common.{rules}
use Rattle.tx_assign.proofs.Steps.{side-placed}
use Rattle.tx_assign.proofs.scan.AssignScan.to_side.Goals as goal

pub returns-in-Standing-clause-answer : goal.returns-in-Standing-clause-answer
returns-in-Standing-clause-answer c =
    λ t. side-placed c.args.operation c.args.side c.in-Standing.place c.set_place.new.self.place t c.to_place.new.self c.to_place.result c.in-Standing.is (search rules) (c.to_place.ensures.answer t)
