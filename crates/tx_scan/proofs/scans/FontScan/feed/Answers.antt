use Rattle.std.proofs.Common.{lit≤}
use Rattle.tx_scan.specs.FontNames.{font}
use Rattle.tx_scan.specs.GrammarRests.{font_rest, held_none}
use Rattle.tx_scan.proofs.Answering.{fed-answers, fed-part}
use Rattle.tx_scan.proofs.scans.FontScan.feed.Goals as goal

pub returns-clause-part : goal.returns-clause-part
returns-clause-part c = fed-part font_rest held_none c.args.self.now c.args.self.now 0 c.args.token.now c.behind.result (lit≤ tt) c.behind.ensures.fed

pub returns-clause-answer : goal.returns-clause-answer
returns-clause-answer c = λ taken h.
    fed-answers font_rest held_none font c.args.self.now c.args.self.now taken c.args.token.now c.behind.result h (returns-clause-part c)
