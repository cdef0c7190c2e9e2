use Rattle.std.proofs.Common.{rules}
use Rattle.tx_assign.proofs.Steps.{number-placed}
use Rattle.tx_assign.proofs.scan.AssignScan.end_number.Goals as goal

pub returns-clause-answer : goal.returns-clause-answer
returns-clause-answer c =
    λ t. number-placed c.args.operation c.args.kind c.args.number c.in-Some.byte c.set_place.new.self.place t c.to_place.new.self c.to_place.result (search rules) (search rules) (c.to_place.ensures.answer t)
