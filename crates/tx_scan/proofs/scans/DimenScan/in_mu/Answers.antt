use Rattle.std.proofs.Common.{rules, to_z, of_z, w64}
use Rattle.tx_num.specs.Decimals.{fraction_of}
use Rattle.tx_scan.proofs.Mathematical.{mu-ends}
use Rattle.tx_scan.proofs.scans.DimenScan.in_mu.Goals as goal

pub returns-in-Muglue-clause-answer : goal.returns-in-Muglue-clause-answer
returns-in-Muglue-clause-answer c =
    mu-ends c.args.self.now.negative (fraction_of c.args.self.now.digits) c.args.amount c.args.value.now c.in-Muglue.glue (to_z w64 (of_z w64 c.width.result)) c.args.back c.amounts.result
    c.in-Muglue.is (search rules) c.amounts.ensures.end
