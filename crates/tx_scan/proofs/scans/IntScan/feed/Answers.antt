use Rattle.tx_scan.specs.Integers.{integer}
use Rattle.tx_scan.specs.IntegerRests.{rest, held, most}
use Rattle.tx_scan.proofs.Answering.{fed-answers-ok, fed-part-ok}
use Rattle.tx_scan.proofs.Mosts.{most-integer}
use Rattle.tx_scan.proofs.scans.IntScan.feed.Goals as goal

pub returns-clause-part : goal.returns-clause-part
returns-clause-part c = fed-part-ok rest held c.args.self.now c.behind.new.self (most c.args.self.now) c.args.token.now c.behind.result (most-integer c.args.self.now) c.behind.ensures.fed

pub returns-clause-answer : goal.returns-clause-answer
returns-clause-answer c = λ taken h.
    fed-answers-ok rest held integer c.args.self.now c.behind.new.self taken c.args.token.now c.behind.result h (returns-clause-part c)
