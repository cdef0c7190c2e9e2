use Rattle.std.proofs.Common.{rules, to_z, of_z, w64}
use Rattle.tx_scan.specs.DimensionRests.{part_of}
use Rattle.tx_scan.proofs.FontUnits.{font-ends}
use Rattle.tx_scan.proofs.scans.DimenScan.give_font_unit.Goals as goal

pub returns-in-Ok-clause-end : goal.returns-in-Ok-clause-end
returns-in-Ok-clause-end c =
    font-ends c.args.self.now.negative (part_of c.args.self.now.magnified c.args.self.now.digits) c.part.result c.args.whole c.args.value.now c.in-Ok.size (to_z w64 (of_z w64 c.in-Ok.size)) c.args.held c.from.result c.measured.result
    (search rules) (search rules) (search rules) (search rules) c.measured.ensures.end
