use Rattle.std.proofs.Common.{rules}
use Rattle.tx_scan.proofs.IntegerSteps.{ended-space, ended-other}
use Rattle.tx_scan.proofs.scans.IntScan.end.Goals as goal

pub returns-then-is_space-clause-fed : goal.returns-then-is_space-clause-fed
returns-then-is_space-clause-fed c =
    ended-space c.args.self.now.outers c.args.self.now.behind c.args.self.now.negative c.args.number _ c.args.token.now c.whole.new.self c.whole.result
    (search rules) (search rules) c.whole.ensures.whole (search rules)

pub returns-else-is_space-clause-fed : goal.returns-else-is_space-clause-fed
returns-else-is_space-clause-fed c =
    ended-other c.args.self.now.outers c.font_name-self.result c.args.self.now.negative c.args.number _ c.args.token.now c.whole-else-is_space.new.self c.whole-else-is_space.result
    (search rules) (search rules) (search rules) c.whole-else-is_space.ensures.whole (search rules)
