use Rattle.std.proofs.Common.{arith}
use Rattle.tx_session.proofs.Replaying.{on-err, replaying-begun, replaying-on, replaying-stopped, replaying-counted}
use Rattle.tx_session.proofs.session.Session.replay.Goals as goal

pub loop-e-init : goal.loop-e-init
loop-e-init g c = replaying-begun g.M.Machine.formatter c.args.self.now c.args.edits.now c.args.steps.now

pub loop-e-preserved : goal.loop-e-preserved
loop-e-preserved g c = replaying-on g.M.Machine.formatter c.e-item.result c.loop-e.invariant c.loop-e-test.true c.e-item.is c.in_ok-edit_if_it_fits.ensures.held c.in_ok-edit_if_it_fits.ensures.counted

pub returns-in_err-edit_if_it_fits-clause-stopped : goal.returns-in_err-edit_if_it_fits-clause-stopped
returns-in_err-edit_if_it_fits-clause-stopped g c =
    on-err c.from_residual.result
    (replaying-stopped g.M.Machine.formatter c.e-item.result c.loop-e.invariant c.loop-e-test.true c.e-item.is c.in_err-edit_if_it_fits.ensures.err c.in_err-edit_if_it_fits.ensures.fits c.edit_if_it_fits.ensures.most)

pub returns-clause-counted : goal.returns-clause-counted
returns-clause-counted g c = replaying-counted g.M.Machine.formatter c.loop-e.invariant (omega arith)
