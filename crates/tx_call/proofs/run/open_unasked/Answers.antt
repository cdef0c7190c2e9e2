use Rattle.std.proofs.Common.{◌≡◌, ℕ, false, rules}
use Rattle.tx_session.specs.Held.{fresh}
use Rattle.tx_call.specs.declared.trouble.Trouble.TheVariants.{Memory}
use Rattle.tx_call.specs.Outcome.{served, unasked_outcome}
use Rattle.tx_call.specs.Replay.{status_after}
use Rattle.tx_call.proofs.Causing.{edit-caused}
use Rattle.tx_call.proofs.Held.{does_nothing, puts_nothing}
use Rattle.tx_call.proofs.Unasked.{line-said, line-short}
use Rattle.tx_call.proofs.run.open_unasked.Goals as goal

pub returns-in_err-main-clause-does : goal.returns-in_err-main-clause-does
returns-in_err-main-clause-does g c = does_nothing c.from_residual.result Memory c.from_residual.ensures.1 _ _ _

pub returns-in_err-session-clause-does : goal.returns-in_err-session-clause-does
returns-in_err-session-clause-does g c =
    puts_nothing c.from_residual-in_err-session.result Memory c.from_residual-in_err-session.ensures.1 (unasked_outcome g.M.Machine.formatter c.args.serving.now c.args.files) _ _ _ (search rules)

pub returns-in_err-say_run-clause-does : goal.returns-in_err-say_run-clause-does
returns-in_err-say_run-clause-does g c =
    let is : c.in_ok-session.session ≡ served c.args.serving.now c.args.files = search rules in
    line-short g.M.Machine.formatter c.args.serving.now c.args.files c.in_ok-session.session is c.from_residual-in_err-say_run.result c.in_err-say_run.field-0.0 c.from_residual-in_err-say_run.ensures.1
    c.in_err-say_run.ensures.puts c.in_ok-session.ensures.counted

pub returns-clause-does : goal.returns-clause-does
returns-clause-does g c =
    let is : c.in_ok-session.session ≡ served c.args.serving.now c.args.files = search rules in
    let end : c.status_after.result ≡ status_after (fresh g.M.Machine.formatter c.in_ok-session.session).ran.end false = search rules in
    line-said g.M.Machine.formatter c.args.serving.now c.args.files c.in_ok-session.session is c.status_after.result c.in_ok-say_run.ensures.puts c.in_ok-session.ensures.counted end

pub returns-in_err-say_run-clause-causes : goal.returns-in_err-say_run-clause-causes
returns-in_err-say_run-clause-causes g c =
    edit-caused ℕ (Unit {0}) c.from_residual-in_err-say_run.result c.in_err-say_run.field-0.0 (g.K.Sink.faults c.args.sink.now) (g.K.Sink.faults c.say_run.new.sink) c.from_residual-in_err-say_run.ensures.1 c.in_err-say_run.ensures.causes
