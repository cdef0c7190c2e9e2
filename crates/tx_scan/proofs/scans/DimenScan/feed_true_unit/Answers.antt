use Rattle.std.proofs.Common.{rules}
use Rattle.tx_scan.proofs.Mathematical.{true-named}
use Rattle.tx_scan.proofs.scans.DimenScan.feed_true_unit.Goals as goal

pub returns-clause-fed : goal.returns-clause-fed
returns-clause-fed c =
    true-named c.args.self.now c.named.new.self c.args.whole c.args.portion c.args.token.now c.named.result
    c.requires (search rules) (search rules) (rw c.first_letter_behind_true.ensures at (c.named.ensures.fed c.args.token.now))
