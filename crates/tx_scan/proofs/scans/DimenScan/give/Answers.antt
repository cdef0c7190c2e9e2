use Rattle.tx_scan.specs.Dimensions.{dimension}
use Rattle.tx_scan.specs.DimensionRests.{rest, held}
use Rattle.tx_scan.proofs.Answering.{given-answers-ok}
use Rattle.tx_scan.proofs.scans.DimenScan.give.Goals as goal

pub returns-clause-answer : goal.returns-clause-answer
returns-clause-answer c = λ units taken h.
    given-answers-ok rest held (dimension units) c.args.self.now c.behind_value.new.self taken c.args.value.now c.behind_value.result h c.behind_value.ensures.part
