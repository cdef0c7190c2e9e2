use Rattle.std.proofs.Common.{◌≡◌, rules, subst}
use Rattle.tx_session.specs.Held.{Held, fresh}
use Rattle.tx_call.specs.declared.trouble.Trouble.TheVariants.{Memory}
use Rattle.tx_call.specs.Outcome.{document, run_outcome, session_outcome}
use Rattle.tx_call.specs.Trouble.{Does}
use Rattle.tx_call.proofs.Held.{does_nothing, puts_nothing, more_turns, session_does}
use Rattle.tx_call.proofs.run.run_files.Goals as goal

pub returns-in_err-main-clause-does : goal.returns-in_err-main-clause-does
returns-in_err-main-clause-does g c = does_nothing c.from_residual.result Memory c.from_residual.ensures.1 _ _ _

pub returns-in_err-session-clause-does : goal.returns-in_err-session-clause-does
returns-in_err-session-clause-does g c =
    puts_nothing c.from_residual-in_err-session.result Memory c.from_residual-in_err-session.ensures.1
    (run_outcome g.M.Machine.formatter c.args.given.now c.args.files c.args.commands.now) _ _ _ (more_turns _ _ (fresh g.M.Machine.formatter (document c.args.given.now c.args.files)).turns _ (search rules))

pub returns-clause-does : goal.returns-clause-does
returns-clause-does g c =
    let held : c.in_ok-session.session ≡ document c.args.given.now c.args.files = search rules in
    subst (λ (d : Held). Does c.run_session.result (session_outcome g.M.Machine.formatter c.args.given.now.out d c.args.commands.now) (g.K.Sink.output c.args.sink.now) (g.K.Sink.output c.run_session.new.sink) c.args.steps.now c.run_session.new.steps) held
    (session_does g.M.Machine.formatter c.args.given.now.out c.in_ok-session.session c.args.commands.now c.run_session.result c.run_session.ensures.puts c.run_session.ensures.status c.run_session.ensures.counted c.run_session.ensures.most c.in_ok-session.ensures.counted)
