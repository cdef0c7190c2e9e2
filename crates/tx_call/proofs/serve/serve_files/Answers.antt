use Rattle.std.proofs.Common.{◌≡◌, ◌∙◌, ℕ, List, ap, refl, rules}
use Rattle.tx_io.proofs.CutShort.{cut-nothing}
use Rattle.tx_session.specs.Held.{held_of}
use Rattle.tx_session.specs.Standing.{settled}
use Rattle.tx_call.specs.declared.tally.Tally.{Tally}
use Rattle.tx_call.specs.declared.trouble.Trouble.TheVariants.{Memory}
use Rattle.tx_call.specs.Outcome.{served}
use Rattle.tx_call.specs.Serving.{status_of}
use Rattle.tx_call.specs.Tally.{sitting}
use Rattle.tx_call.proofs.Causing.{line-caused, break-caused}
use Rattle.tx_call.proofs.ServedFiles.{served-none, served-nothing, serves-short, line-cut, serves-all, serves-broken}
use Rattle.tx_call.proofs.serve.serve_files.Goals as goal

pub returns-in_err-main-clause-serves : goal.returns-in_err-main-clause-serves
returns-in_err-main-clause-serves g c =
    serves-short g.M.Machine.formatter (served c.args.serving.now c.args.files) c.from_residual.result Memory (g.I.Inlet.left c.args.inlet.now) (g.I.Inlet.left c.args.inlet.now) (g.K.Sink.output c.args.sink.now) (g.K.Sink.output c.args.sink.now) c.args.steps.now c.args.steps.now
    c.from_residual.ensures.1 (served-nothing g.M.Machine.formatter (served c.args.serving.now c.args.files) refl refl)

pub returns-in_err-live-clause-serves : goal.returns-in_err-live-clause-serves
returns-in_err-live-clause-serves g c =
    serves-short g.M.Machine.formatter (served c.args.serving.now c.args.files) c.from_residual-in_err-live.result Memory (g.I.Inlet.left c.args.inlet.now) (g.I.Inlet.left c.args.inlet.now) (g.K.Sink.output c.args.sink.now) (g.K.Sink.output c.args.sink.now) c.args.steps.now c.open.new.steps c.from_residual-in_err-live.ensures.1
    (served-none g.M.Machine.formatter (served c.args.serving.now c.args.files) (cut-nothing _ _) (search rules))

pub returns-in_err-say_run-clause-serves : goal.returns-in_err-say_run-clause-serves
returns-in_err-say_run-clause-serves g c =
    let is : c.in_ok-live.live ≡ settled (served c.args.serving.now c.args.files) =
    c.in_ok-live.ensures.held ∙ ap (λ (main : List ℕ). settled (held_of c.args.files main c.args.serving.now.date c.args.serving.now.limits)) c.in_ok-main.ensures.cases in
    serves-short g.M.Machine.formatter (served c.args.serving.now c.args.files) c.from_residual-in_err-say_run.result c.in_err-say_run.field-0.0 (g.I.Inlet.left c.args.inlet.now) (g.I.Inlet.left c.args.inlet.now) (g.K.Sink.output c.args.sink.now) (g.K.Sink.output c.say_run.new.sink) c.args.steps.now c.open.new.steps c.from_residual-in_err-say_run.ensures.1
    (line-cut g.M.Machine.formatter (served c.args.serving.now c.args.files) c.in_ok-live.live is c.in_err-say_run.ensures.puts c.in_ok-live.ensures.counted)

pub returns-in_err-tally-clause-serves : goal.returns-in_err-tally-clause-serves
returns-in_err-tally-clause-serves g c =
    let is : c.in_ok-live.live ≡ settled (served c.args.serving.now c.args.files) =
    c.in_ok-live.ensures.held ∙ ap (λ (main : List ℕ). settled (held_of c.args.files main c.args.serving.now.date c.args.serving.now.limits)) c.in_ok-main.ensures.cases in
    serves-broken g.M.Machine.formatter (served c.args.serving.now c.args.files) c.in_ok-live.live is c.from_residual-in_err-tally.result c.in_err-tally.field-0.0 c.answer_all.new.live
    (g.I.Inlet.left c.args.inlet.now) (g.I.Inlet.left c.answer_all.new.inlet) (g.K.Sink.output c.args.sink.now) (g.K.Sink.output c.say_run.new.sink) (g.K.Sink.output c.answer_all.new.sink) c.args.steps.now _ c.answer_all.new.steps
    c.from_residual-in_err-tally.ensures.1 c.in_ok-say_run.ensures.puts c.in_ok-live.ensures.counted c.in_err-tally.ensures.serves

pub returns-clause-serves : goal.returns-clause-serves
returns-clause-serves g c =
    let is : c.in_ok-live.live ≡ settled (served c.args.serving.now c.args.files) =
    c.in_ok-live.ensures.held ∙ ap (λ (main : List ℕ). settled (held_of c.args.files main c.args.serving.now.date c.args.serving.now.limits)) c.in_ok-main.ensures.cases in
    let status : c.status_after.result ≡ status_of g.M.Machine.formatter (sitting c.answer_all.new.live c.in_ok-tally.tally) = search rules in
    serves-all g.M.Machine.formatter (served c.args.serving.now c.args.files) c.in_ok-live.live is c.status_after.result c.in_ok-tally.tally c.answer_all.new.live
    c.in_ok-say_run.ensures.puts c.in_ok-live.ensures.counted c.in_ok-tally.ensures.serves status

pub returns-in_err-say_run-clause-causes : goal.returns-in_err-say_run-clause-causes
returns-in_err-say_run-clause-causes g c =
    line-caused ℕ (Unit {0}) c.from_residual-in_err-say_run.result c.in_err-say_run.field-0.0 (g.I.Inlet.faults c.args.inlet.now) (g.K.Sink.faults c.args.sink.now) (g.K.Sink.faults c.say_run.new.sink)
    c.from_residual-in_err-say_run.ensures.1 c.in_err-say_run.ensures.causes

pub returns-in_err-tally-clause-causes : goal.returns-in_err-tally-clause-causes
returns-in_err-tally-clause-causes g c =
    break-caused ℕ Tally c.from_residual-in_err-tally.result c.in_err-tally.field-0.0 (g.I.Inlet.faults c.args.inlet.now) (g.I.Inlet.faults c.answer_all.new.inlet)
    (g.K.Sink.faults c.args.sink.now) (g.K.Sink.faults c.say_run.new.sink) (g.K.Sink.faults c.answer_all.new.sink) c.from_residual-in_err-tally.ensures.1 c.in_ok-say_run.ensures.causes c.in_err-tally.ensures.causes
