use Rattle.std.proofs.Common.{rules}
use Rattle.tx_scan.proofs.UnitSpaces.{character-ends}
use Rattle.tx_scan.proofs.scans.DimenScan.feed_after_character.Goals as goal

pub returns-clause-fed : goal.returns-clause-fed
returns-clause-fed c =
    character-ends c.args.self.now c.feed_unit.new.self c.args.code c.from.result c.clear.new.self c.args.token.now c.feed_unit.result
    c.requires c.feed_unit.ensures.fed (search rules) (search rules)
