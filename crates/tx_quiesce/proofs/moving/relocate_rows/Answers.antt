use Rattle.std.proofs.Common.{refl, ap, sym, ◌∙◌, subst}
use Rattle.tx_quiesce.specs.Moves.{CanCarryRow, carried_row}
use Rattle.tx_quiesce.proofs.Fitting.{mapped-here, mapped-has}
use Rattle.tx_quiesce.proofs.Unmoved.{rows-still}
use Rattle.tx_quiesce.proofs.moving.relocate_rows.Goals as goal

pub returns-then-are_even : goal.returns-then-are_even
returns-then-are_even g c = sym (rows-still c.args.changes.now (sym c.are_even.ensures ∙ c.if-are_even.true) c.args.rows.now c.requires)

pub relocate_row-requires : goal.relocate_row-requires
relocate_row-requires g c =
    subst (CanCarryRow c.args.changes.now) c.index-rows-at.is
    (mapped-has (carried_row c.args.changes.now) (CanCarryRow c.args.changes.now) c.loop-at.at c.args.rows.now c.loop-at.invariant c.loop-at-test.true c.requires c.index-rows-at.is)

pub loop-at-preserved : goal.loop-at-preserved
loop-at-preserved g c =
    mapped-here (carried_row c.args.changes.now) c.loop-at.at c.args.rows.now c.loop-at.invariant c.loop-at-test.true c.index-rows-at.is
    (c.relocate_row.ensures ∙ ap (carried_row c.args.changes.now) (sym c.index-rows-at.is))
    refl
