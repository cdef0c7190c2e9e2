use Rattle.std.proofs.Common.{sym, ap, ◌∙◌, ◌&&◌}
use Rattle.tx_quiesce.specs.Meeting.{opens_fit}
use Rattle.tx_quiesce.proofs.Searching.{fits-so}
use Rattle.tx_quiesce.proofs.meeting.meets.Goals as goal

pub returns : goal.returns
returns g c =
    ap (λ b. b && c.same.result) (sym c.if-not-opens_fit.false)
    ∙ fits-so g.met.M.Machine.lawful g.M.Machine.meaning c.args.changes.now c.args.row.now c.args.new.now c.opens_fit.result c.same.result
    (c.opens_fit.ensures ∙ (λ i. opens_fit c.args.changes.now (c.as_slice.ensures i) (c.as_slice-2.ensures i))) c.same.ensures
