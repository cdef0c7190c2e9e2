use Rattle.std.proofs.Common.{rules, to_z, of_z, w64}
use Rattle.tx_scan.specs.declared.scans.DimenStage.TheVariants.{Quantity}
use Rattle.tx_scan.proofs.Quantities.{amount-more, amount-need, amount-wrong, amount-done}
use Rattle.tx_scan.proofs.scans.DimenScan.feed_quantity.Goals as goal

pub returns-in-More-clause-fed : goal.returns-in-More-clause-fed
returns-in-More-clause-fed c =
    amount-more c.args.self.now c.feed.new.self c.args.amount c.args.token.now c.in-More.want (rw c.in-More.is at c.in_ok-want.ensures.fed)

pub returns-in-Need-clause-fed : goal.returns-in-Need-clause-fed
returns-in-Need-clause-fed c =
    amount-need c.args.self.now c.feed.new.self c.args.amount c.args.token.now c.in-Need.kind (rw c.in-Need.is at c.in_ok-want.ensures.fed)

pub returns-in-Done-clause-fed : goal.returns-in-Done-clause-fed
returns-in-Done-clause-fed c =
    amount-done c.args.self.now (record c.args.self.now { stage = Quantity c.args.amount; number = c.feed.new.self }) c.feed.new.self c.args.amount c.args.token.now c.in-Done.number (to_z w64 (of_z w64 c.in-Done.number)) c.in-Done.back c.amounts.result
    (rw c.in-Done.is at c.in_ok-want.ensures.fed) (search rules) c.amounts.ensures.end

pub returns-in-Wrong-clause-fed : goal.returns-in-Wrong-clause-fed
returns-in-Wrong-clause-fed c =
    amount-wrong c.args.self.now c.args.self.now c.feed.new.self c.args.amount c.args.token.now c.in-Wrong.error (rw c.in-Wrong.is at c.in_ok-want.ensures.fed)
