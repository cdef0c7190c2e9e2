use Rattle.tx_assign.proofs.Operands.{by-first}
use Rattle.tx_assign.proofs.scan.AssignScan.feed_place.Goals as goal

pub returns-in-Some-clause-answer : goal.returns-in-Some-clause-answer
returns-in-Some-clause-answer c =
    by-first c.args.operation c.in-Some.operation c.args.self.now.place c.new.result c.args.token.now c.feed_by.new.self c.feed_by.result c.in-Some.is c.new.ensures.scan c.feed_by.ensures.answer
