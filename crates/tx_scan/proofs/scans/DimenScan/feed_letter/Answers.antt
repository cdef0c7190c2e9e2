use Rattle.std.proofs.Common.{rules}
use Rattle.tx_scan.proofs.Quantities.{letter-named}
use Rattle.tx_scan.proofs.scans.DimenScan.feed_letter.Goals as goal

pub returns-clause-fed : goal.returns-clause-fed
returns-clause-fed c =
    letter-named c.args.self.now c.named.new.self c.args.whole c.args.letters c.args.token.now c.named.result
    c.requires (search rules) (rw c.letter_on.ensures at (c.named.ensures.fed c.args.token.now))
