use Rattle.std.proofs.Common.{◌<◌, length, sym, ap, ◌∙◌, subst}
use Rattle.tx_quiesce.specs.Shift.{CanShiftFile, shifted_file}
use Rattle.tx_quiesce.proofs.Fitting.{mapped-step, mapped-length, mapped-still}
use Rattle.tx_quiesce.proofs.moving.shift_opens.Goals as goal

pub relocate_file-requires-clause-within : goal.relocate_file-requires-clause-within
relocate_file-requires-clause-within c =
    subst (λ n. c.loop-at.at < n)
    (ap length c.as_slice-at-end.ensures ∙ sym (ap length c.loop-at.invariant ∙ mapped-length (shifted_file c.args.e.now) c.loop-at.at c.args.opens.now)) c.loop-at-test.true

pub relocate_file-requires-clause-can : goal.relocate_file-requires-clause-can
relocate_file-requires-clause-can c = mapped-still (shifted_file c.args.e.now) (CanShiftFile c.args.e.now) c.loop-at.at c.args.opens.now c.loop-at.invariant c.requires

pub loop-at-preserved : goal.loop-at-preserved
loop-at-preserved c =
    mapped-step (shifted_file c.args.e.now) c.loop-at.at c.args.opens.now c.loop-at.invariant (subst (λ n. c.loop-at.at < n) (ap length c.as_slice-at-end.ensures) c.loop-at-test.true) c.relocate_file.ensures
