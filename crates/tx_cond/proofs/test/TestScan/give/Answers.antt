use Rattle.tx_scan.proofs.Answering.{given-answers-ok}
use Rattle.tx_cond.specs.Tests.{test}
use Rattle.tx_cond.specs.TestRests.{rest, held}
use Rattle.tx_cond.proofs.test.TestScan.give.Goals as goal

pub returns-clause-answer : goal.returns-clause-answer
returns-clause-answer c =
    λ kind mode taken h. given-answers-ok rest held (test kind mode) c.args.self.now c.behind_value.new.self taken c.args.value.now c.behind_value.result h c.behind_value.ensures.part
