use Rattle.tx_session.proofs.Replaying.{Replaying}
use Rattle.tx_session.proofs.session.Session.replay.Given as goal

abbrev pub invariant-loop-e : goal.invariant-loop-e
invariant-loop-e g l = Replaying g.M.Machine.formatter l.initial.self l.self l.edits l.e-index l.initial.steps l.steps
