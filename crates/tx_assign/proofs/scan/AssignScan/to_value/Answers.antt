use Rattle.std.proofs.Common.{rules}
use Rattle.tx_assign.proofs.Steps.{value-number}
use Rattle.tx_assign.proofs.scan.AssignScan.to_value.Goals as goal

pub returns-else-takes_list-clause-answer : goal.returns-else-takes_list-clause-answer
returns-else-takes_list-clause-answer c =
    λ t. value-number c.args.purpose c.args.self.now.place t c.to_number.new.self c.to_number.result (search rules) (c.to_number.ensures.answer t)
