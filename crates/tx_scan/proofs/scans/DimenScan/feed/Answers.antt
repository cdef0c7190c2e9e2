use Rattle.tx_scan.specs.Dimensions.{dimension}
use Rattle.tx_scan.specs.DimensionRests.{rest, held, most}
use Rattle.tx_scan.proofs.Answering.{fed-answers-ok, fed-part-ok}
use Rattle.tx_scan.proofs.Mosts.{most-size}
use Rattle.tx_scan.proofs.scans.DimenScan.feed.Goals as goal

pub returns-clause-part : goal.returns-clause-part
returns-clause-part c = fed-part-ok rest held c.args.self.now c.behind.new.self (most c.args.self.now) c.args.token.now c.behind.result (most-size c.args.self.now) c.behind.ensures.fed

pub returns-clause-answer : goal.returns-clause-answer
returns-clause-answer c = λ units taken h.
    fed-answers-ok rest held (dimension units) c.args.self.now c.behind.new.self taken c.args.token.now c.behind.result h (returns-clause-part c)
