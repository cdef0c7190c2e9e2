use Rattle.tx_scan.specs.Glues.{glue}
use Rattle.tx_scan.specs.GlueRests.{rest, held}
use Rattle.tx_scan.proofs.Behind.{behind-answers-ok}
use Rattle.tx_scan.proofs.scans.GlueScan.give.Goals as goal

pub returns-clause-answer : goal.returns-clause-answer
returns-clause-answer c = λ mu taken h l.
    behind-answers-ok rest held (glue mu) c.args.self.now c.behind_value.new.self taken c.args.value.now c.args.behind.now c.behind_value.result h c.requires.few l c.behind_value.ensures.given
