use Rattle.std.proofs.Common.{rules, arith}
use Rattle.tx_scan.specs.IntegerRests as integers
use Rattle.tx_scan.proofs.Quantities.{needs-wider-ok}
use Rattle.tx_assign.specs.Rests.{more_needed}
use Rattle.tx_assign.proofs.Steps.{value-by-glue, value-by-size, value-by-integer}
use Rattle.tx_assign.proofs.scan.AssignScan.feed_first.Goals as goal

pub returns-then-takes_glue-clause-answer : goal.returns-then-takes_glue-clause-answer
returns-then-takes_glue-clause-answer c =
    value-by-glue c.args.purpose c.args.self.now.place c.restart.new.self c.args.token.now c.feed_glue.new.self c.feed_glue.result (search rules) (search rules) c.feed_glue.ensures.answer

pub returns-then-takes_glue-clause-needed : goal.returns-then-takes_glue-clause-needed
returns-then-takes_glue-clause-needed c =
    needs-wider-ok c.feed_glue.result 0 (integers.waiting c.args.self.now.integer) (more_needed c.feed_glue.new.self) (omega arith) (rw c.restart.ensures.scan at c.feed_glue.ensures.needed)

pub returns-then-takes_size-clause-answer : goal.returns-then-takes_size-clause-answer
returns-then-takes_size-clause-answer c =
    value-by-size c.args.purpose c.args.self.now.place c.restart-then-takes_size.new.self c.args.token.now c.feed_size.new.self c.feed_size.result (search rules) (search rules) c.restart-then-takes_size.ensures.scan c.feed_size.ensures.answer

pub returns-then-takes_size-clause-needed : goal.returns-then-takes_size-clause-needed
returns-then-takes_size-clause-needed c =
    needs-wider-ok c.feed_size.result 0 (integers.waiting c.args.self.now.integer) (more_needed c.feed_size.new.self) (omega arith) (rw c.restart-then-takes_size.ensures.scan at c.feed_size.ensures.needed)

pub returns-else-takes_size-clause-answer : goal.returns-else-takes_size-clause-answer
returns-else-takes_size-clause-answer c =
    value-by-integer c.args.purpose c.args.self.now.place c.restart-else-takes_size.new.self c.args.token.now c.feed_integer.new.self c.feed_integer.result (search rules) (search rules) c.restart-else-takes_size.ensures.scan c.feed_integer.ensures.answer
