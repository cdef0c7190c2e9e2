use Rattle.std.proofs.Common.{List, ℕ, sym, subst}
use Rattle.tx_quiesce.specs.Tails.{IsCarriedFrom}
use Rattle.tx_quiesce.proofs.Origins.{origin-none, origin-some}
use Rattle.tx_quiesce.proofs.tails.origin_of.Goals as goal

pub returns-in-None : goal.returns-in-None
returns-in-None c = origin-none c.args.changes.now c.args.opens.now (sym c.in-None.ensures)

pub returns-in-Some : goal.returns-in-Some
returns-in-Some c =
    origin-some c.args.changes.now c.args.opens.now c.in-Some.file.now c.carried_from.result (sym c.in-Some.ensures)
    (subst (λ (name : List ℕ). IsCarriedFrom c.args.changes.now name c.in-Some.file.now.offset c.carried_from.result) c.as_slice.ensures c.carried_from.ensures)
