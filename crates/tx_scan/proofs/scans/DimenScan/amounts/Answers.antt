use Rattle.std.proofs.Common.{rules, to_z, of_z, w64}
use Rattle.tx_num.specs.Decimals.{fraction_of}
use Rattle.tx_scan.proofs.FontUnits.{end-measured}
use Rattle.tx_scan.proofs.scans.DimenScan.amounts.Goals as goal

pub returns-clause-end : goal.returns-clause-end
returns-clause-end c =
    end-measured c.args.self.now.negative (fraction_of c.args.self.now.digits) c.value.result c.args.amount c.args.number (to_z w64 (of_z w64 c.args.number)) c.args.back c.measured.result
    (search rules) (search rules) c.measured.ensures.end
