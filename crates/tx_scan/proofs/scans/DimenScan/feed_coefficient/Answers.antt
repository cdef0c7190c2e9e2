use Rattle.std.proofs.Common.{rules, to_z, of_z, w64}
use Rattle.tx_scan.proofs.Quantities.{factor-more, factor-need, factor-wrong, factor-ends, factor-ends-before}
use Rattle.tx_scan.proofs.scans.DimenScan.feed_coefficient.Goals as goal

pub returns-in-More-clause-fed : goal.returns-in-More-clause-fed
returns-in-More-clause-fed c =
    factor-more c.args.self.now c.feed.new.self c.args.token.now c.in-More.want (rw c.in-More.is at c.in_ok-want.ensures.fed)

pub returns-in_ok-clone-in-Need-clause-fed : goal.returns-in_ok-clone-in-Need-clause-fed
returns-in_ok-clone-in-Need-clause-fed c =
    factor-need c.args.self.now c.feed.new.self c.args.token.now c.in_ok-clone-in-Need.field-0 c.in-Need.kind c.in_ok-clone-in-Need.ensures.cases (rw c.in-Need.is at c.in_ok-want.ensures.fed)

pub returns-in-Done-default-eq0-clause-fed : goal.returns-in-Done-default-eq0-clause-fed
returns-in-Done-default-eq0-clause-fed c =
    factor-ends c.args.self.now c.to_unit.new.self c.feed.new.self c.args.token.now c.in-Done-default-eq0.number (to_z w64 (of_z w64 c.in-Done-default-eq0.number)) c.in-Done-default-eq0.field-1 c.to_unit.result
    (rw c.in-Done-default-eq0.is at c.in_ok-want.ensures.fed) (search rules) (search rules) (c.to_unit.ensures.fed c.args.token.now)

pub returns-in-Done-clause-fed : goal.returns-in-Done-clause-fed
returns-in-Done-clause-fed c =
    factor-ends-before c.args.self.now c.feed_numbered.new.self c.feed.new.self c.args.token.now c.in-Done.number (to_z w64 (of_z w64 c.in-Done.number)) c.in-Done.field-1 c.feed_numbered.result
    (rw c.in-Done.is at c.in_ok-want.ensures.fed) (search rules) (search rules) c.feed_numbered.ensures.fed

pub returns-in-Wrong-clause-fed : goal.returns-in-Wrong-clause-fed
returns-in-Wrong-clause-fed c =
    factor-wrong c.args.self.now c.args.self.now c.feed.new.self c.args.token.now c.in-Wrong.error (rw c.in-Wrong.is at c.in_ok-want.ensures.fed)
