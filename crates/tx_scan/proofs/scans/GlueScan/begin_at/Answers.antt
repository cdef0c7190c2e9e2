use Rattle.std.proofs.Common.{rules}
use Rattle.tx_scan.proofs.GlueBegins.{width-at}
use Rattle.tx_scan.proofs.scans.GlueScan.begin_at.Goals as goal

pub returns-then-not-is_elastic-clause-fed : goal.returns-then-not-is_elastic-clause-fed
returns-then-not-is_elastic-clause-fed c =
    width-at c.args.self.now c.begin_width.new.self c.args.negative c.args.place c.args.token.now c.begin_width.result (search rules) c.begin_width.ensures.fed
