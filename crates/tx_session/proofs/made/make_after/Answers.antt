use Rattle.std.proofs.Common.{◌∙◌}
use Rattle.tx_quiesce.proofs.Carried.{reused-rows, reused-idle}
use Rattle.tx_session.proofs.Saying.{is-said}
use Rattle.tx_session.proofs.made.make_after.Goals as goal

pub returns-clause-goes : goal.returns-clause-goes
returns-clause-goes g c h are = reused-rows g.M.Machine.meaning c.args.changes.now are (c.in_ok-beside.ensures.later h are) c.in_ok-take_over.ensures.rows

pub returns-clause-idle : goal.returns-clause-idle
returns-clause-idle g c = reused-idle g.M.Machine.formatter g.M.Machine.meaning g.M.Machine.pending c.args.changes.now c.requires.idle c.in_ok-beside.ensures.idle c.in_ok-take_over.ensures.rows

pub returns-clause-said : goal.returns-clause-said
returns-clause-said g c = is-said c.args.changes.now c.args.made.now c.in_ok-take_over.ensures.rows (c.in_ok-take_over.ensures.said ∙ c.in_ok-beside.ensures.said)
