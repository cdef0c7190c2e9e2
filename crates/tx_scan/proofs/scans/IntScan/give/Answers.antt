use Rattle.tx_scan.specs.Integers.{integer}
use Rattle.tx_scan.specs.IntegerRests.{rest, held}
use Rattle.tx_scan.proofs.Answering.{given-answers}
use Rattle.tx_scan.proofs.scans.IntScan.give.Goals as goal

pub returns-clause-part : goal.returns-clause-part
returns-clause-part c = c.answered.ensures.given

pub returns-clause-answer : goal.returns-clause-answer
returns-clause-answer c = λ taken h.
    given-answers rest held integer c.args.self.now c.answered.new.self taken c.args.value.now c.answered.result h (returns-clause-part c)
