use Rattle.std.proofs.Common.{◌≡◌, ◌≤◌, sym, ap, subst, ◌∙◌}
use Rattle.std.specs.Prelude.{IfOk}
use Rattle.tx_machine.specs.Steps.{raised}
use Rattle.tx_session.specs.Standing.{settled}
use Rattle.tx_session.proofs.Saying.{on-ok, on-err}
use Rattle.tx_session.proofs.Settled.{settled-made, settled-report, settled-work, settled-turns}
use Rattle.tx_session.proofs.session.SessionDocument.batch.Goals as goal

pub returns-clause-made : goal.returns-clause-made
returns-clause-made g c = on-ok c.batch.result (λ is. ap settled is ∙ sym (settled-made g.M.Machine.formatter c.args.self.now c.args.changes.now)) c.batch.ensures.held

pub returns-clause-report : goal.returns-clause-report
returns-clause-report g c = subst (λ it. IfOk c.batch.result (λ answer. answer ≡ it)) (sym (settled-report g.M.Machine.formatter c.args.self.now c.args.changes.now)) c.batch.ensures.report

pub returns-clause-counted : goal.returns-clause-counted
returns-clause-counted g c = on-ok c.batch.result (λ is. is ∙ ap (raised c.args.steps.now) (sym (settled-work g.M.Machine.formatter c.args.self.now c.args.changes.now))) c.batch.ensures.counted

pub returns-clause-refused : goal.returns-clause-refused
returns-clause-refused g c = on-err c.batch.result (λ is. ap settled is) c.batch.ensures.refused

pub returns-clause-most : goal.returns-clause-most
returns-clause-most g c = subst (λ turns. c.batch.new.steps ≤ raised c.args.steps.now turns) (sym (settled-turns g.M.Machine.formatter c.args.self.now c.args.changes.now)) c.batch.ensures.most
