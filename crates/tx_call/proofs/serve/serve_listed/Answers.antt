use Rattle.std.proofs.Common.{◌≡◌, ℕ, List, refl, subst}
use Rattle.std.specs.FinMap.{empty}
use Rattle.tx_bytes.specs.Files.{Files}
use Rattle.tx_call.specs.Hearing.{ServesFiles}
use Rattle.tx_call.specs.Outcome.{served, with_listed, ForHeld}
use Rattle.tx_call.specs.Serving.{serving_held}
use Rattle.tx_call.proofs.Held.{for_any, for_held}
use Rattle.tx_call.proofs.ServedFiles.{served-nothing, serves-short, causes-served, causes-fetched, never-source}
use Rattle.tx_call.proofs.serve.serve_listed.Goals as goal

pub returns-in_err-files-clause-serves : goal.returns-in_err-files-clause-serves
returns-in_err-files-clause-serves g c =
    for_any _
    (λ held. serves-short g.M.Machine.formatter (serving_held c.args.serving.now held) c.from_residual.result c.in_err-files.field-0.0 (g.I.Inlet.left c.args.inlet.now) (g.I.Inlet.left c.args.inlet.now) (g.K.Sink.output c.args.sink.now) (g.K.Sink.output c.args.sink.now) c.args.steps.now c.args.steps.now
    c.from_residual.ensures.1 (served-nothing g.M.Machine.formatter (serving_held c.args.serving.now held) refl refl))

pub returns-in_err-files-clause-silent : goal.returns-in_err-files-clause-silent
returns-in_err-files-clause-silent g c = λ source. record { left_is = refl; output_is = refl; steps_are = refl }

pub returns-in_err-files-clause-causes : goal.returns-in_err-files-clause-causes
returns-in_err-files-clause-causes g c =
    causes-fetched c.from_residual.result c.in_err-files.field-0.0 (g.S.Source.faults c.args.source.now) (g.S.Source.faults c.fetch_files.new.source) (g.I.Inlet.faults c.args.inlet.now) (g.K.Sink.faults c.args.sink.now)
    c.from_residual.ensures.1 c.in_err-files.ensures.causes

pub returns-clause-serves : goal.returns-clause-serves
returns-clause-serves g c =
    for_held (subst (λ (names : List (List ℕ)). ForHeld (g.S.Source.holds c.args.source.now) (λ held. c.in_ok-files.files ≡ with_listed held empty names)) c.as_slice.ensures c.in_ok-files.ensures.files)
    (λ held are. subst (λ (files : Files). ServesFiles g.M.Machine.formatter (served c.args.serving.now files) (g.I.Inlet.left c.args.inlet.now) (g.I.Inlet.left c.serve_files.new.inlet) c.serve_files.result (g.K.Sink.output c.args.sink.now) (g.K.Sink.output c.serve_files.new.sink) c.args.steps.now c.serve_files.new.steps)
    are c.serve_files.ensures.serves)

pub returns-clause-silent : goal.returns-clause-silent
returns-clause-silent g c = λ source.
    absurd (never-source c.serve_files.result (g.I.Inlet.faults c.args.inlet.now) (g.I.Inlet.faults c.serve_files.new.inlet) (g.K.Sink.faults c.args.sink.now) (g.K.Sink.faults c.serve_files.new.sink) c.serve_files.ensures.causes source)

pub returns-clause-causes : goal.returns-clause-causes
returns-clause-causes g c =
    causes-served c.serve_files.result (g.S.Source.faults c.args.source.now) (g.S.Source.faults c.fetch_files.new.source) (g.I.Inlet.faults c.args.inlet.now) (g.I.Inlet.faults c.serve_files.new.inlet) (g.K.Sink.faults c.args.sink.now) (g.K.Sink.faults c.serve_files.new.sink)
    c.in_ok-files.ensures.causes c.serve_files.ensures.causes
