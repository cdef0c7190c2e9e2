use Rattle.std.proofs.Common.{rules}
use Rattle.tx_assign.proofs.Steps.{value-listed, value-numbered}
use Rattle.tx_assign.proofs.scan.AssignScan.feed_value.Goals as goal

pub returns-then-takes_list-clause-answer : goal.returns-then-takes_list-clause-answer
returns-then-takes_list-clause-answer c =
    value-listed c.args.purpose c.args.self.now.place c.args.token.now c.feed_list.new.self c.feed_list.result (search rules) c.feed_list.ensures.answer

pub returns-else-takes_list-clause-answer : goal.returns-else-takes_list-clause-answer
returns-else-takes_list-clause-answer c =
    value-numbered c.args.purpose c.args.self.now.place c.args.token.now c.feed_first.new.self c.feed_first.result (search rules) c.feed_first.ensures.answer
