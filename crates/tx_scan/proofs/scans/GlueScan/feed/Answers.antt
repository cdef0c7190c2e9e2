use Rattle.tx_scan.specs.Glues.{glue}
use Rattle.tx_scan.specs.GlueRests.{rest, held}
use Rattle.tx_scan.proofs.Answering.{fed-answers-ok}
use Rattle.tx_scan.proofs.scans.GlueScan.feed.Goals as goal

pub returns-clause-answer : goal.returns-clause-answer
returns-clause-answer c = λ mu taken h.
    fed-answers-ok rest held (glue mu) c.args.self.now c.behind.new.self taken c.args.token.now c.behind.result h c.behind.ensures.part
