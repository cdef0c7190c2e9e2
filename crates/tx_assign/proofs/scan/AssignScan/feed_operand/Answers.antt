use Rattle.std.proofs.Common.{rules}
use Rattle.tx_assign.proofs.Steps.{operand-side}
use Rattle.tx_assign.proofs.scan.AssignScan.feed_operand.Goals as goal

pub returns-then-is_changeable-clause-answer : goal.returns-then-is_changeable-clause-answer
returns-then-is_changeable-clause-answer c =
    operand-side c.args.operation c.in-Some.side c.args.token.now c.to_side.new.self c.to_side.result (search rules) (search rules) (search rules) (c.to_side.ensures.answer c.args.token.now)
