use Rattle.std.proofs.Common.{rules, to_z, of_z, w64}
use Rattle.tx_scan.proofs.Quantities.{given-amount-more, given-amount-need, given-amount-wrong, given-amount-done}
use Rattle.tx_scan.proofs.scans.DimenScan.give_quantity.Goals as goal

pub returns-in-More-clause-part : goal.returns-in-More-clause-part
returns-in-More-clause-part c =
    given-amount-more c.args.self.now c.give.new.self c.args.amount c.args.value.now c.in-More.want c.requires (rw c.in-More.is at c.give.ensures.given)

pub returns-in-Need-clause-part : goal.returns-in-Need-clause-part
returns-in-Need-clause-part c =
    given-amount-need c.args.self.now c.give.new.self c.args.amount c.args.value.now c.in-Need.kind c.requires (rw c.in-Need.is at c.give.ensures.given)

pub returns-in-Done-clause-part : goal.returns-in-Done-clause-part
returns-in-Done-clause-part c =
    given-amount-done c.args.self.now (record c.args.self.now { number = c.give.new.self }) c.give.new.self c.args.amount c.args.value.now c.in-Done.number (to_z w64 (of_z w64 c.in-Done.number)) c.in-Done.back c.amounts.result
    c.requires (rw c.in-Done.is at c.give.ensures.given) (search rules) c.amounts.ensures.end

pub returns-in-Wrong-clause-part : goal.returns-in-Wrong-clause-part
returns-in-Wrong-clause-part c =
    given-amount-wrong c.args.self.now c.args.self.now c.give.new.self c.args.amount c.args.value.now c.in-Wrong.error c.requires (rw c.in-Wrong.is at c.give.ensures.given)
