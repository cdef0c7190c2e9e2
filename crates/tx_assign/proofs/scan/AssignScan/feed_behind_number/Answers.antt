use Rattle.std.proofs.Common.{rules}
use Rattle.tx_assign.proofs.Steps.{number-placed-before}
use Rattle.tx_assign.proofs.scan.AssignScan.feed_behind_number.Goals as goal

pub returns-clause-answer : goal.returns-clause-answer
returns-clause-answer c =
    number-placed-before c.args.operation c.args.kind c.args.number c.in-Some.byte c.set_place.new.self.place c.args.token.now c.feed_place.new.self c.feed_place.result (search rules) (search rules) c.feed_place.ensures.answer
