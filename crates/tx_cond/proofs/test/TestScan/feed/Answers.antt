use Rattle.std.proofs.Common.{lit≤}
use Rattle.tx_scan.proofs.Answering.{fed-answers-ok, fed-part-ok}
use Rattle.tx_cond.specs.Tests.{test}
use Rattle.tx_cond.specs.TestRests.{rest, held}
use Rattle.tx_cond.proofs.test.TestScan.feed.Goals as goal

pub returns-clause-part : goal.returns-clause-part
returns-clause-part c =
    fed-part-ok rest held c.args.self.now c.behind.new.self 1 c.args.token.now c.behind.result (lit≤ tt) c.behind.ensures.fed

pub returns-clause-answer : goal.returns-clause-answer
returns-clause-answer c =
    λ kind mode taken h. fed-answers-ok rest held (test kind mode) c.args.self.now c.behind.new.self taken c.args.token.now c.behind.result h (returns-clause-part c)
