use Rattle.std.proofs.Common.{lit≤}
use Rattle.tx_scan.specs.QuantityRests.{rest, held}
use Rattle.tx_scan.proofs.Answering.{fed-part-ok}
use Rattle.tx_scan.proofs.scans.QuantityScan.feed.Goals as goal

pub returns-clause-part : goal.returns-clause-part
returns-clause-part c = fed-part-ok rest held c.args.self.now c.behind.new.self 1 c.args.token.now c.behind.result (lit≤ tt) c.behind.ensures.fed
