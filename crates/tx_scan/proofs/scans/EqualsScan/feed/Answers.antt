use Rattle.std.proofs.Common.{lit≤}
use Rattle.tx_scan.specs.Grammars.{equals}
use Rattle.tx_scan.specs.GrammarRests.{equals_rest, held_none}
use Rattle.tx_scan.proofs.Answering.{fed-answers, fed-part}
use Rattle.tx_scan.proofs.scans.EqualsScan.feed.Goals as goal

pub returns-clause-part : goal.returns-clause-part
returns-clause-part c = fed-part equals_rest held_none c.args.self.now c.args.self.now 1 c.args.token.now c.behind.result (lit≤ tt) c.behind.ensures.fed

pub returns-clause-answer : goal.returns-clause-answer
returns-clause-answer c = λ taken h.
    fed-answers equals_rest held_none equals c.args.self.now c.args.self.now taken c.args.token.now c.behind.result h (returns-clause-part c)
