use Rattle.std.proofs.Common.{◌≡◌, ℕ, List, subst}
use Rattle.std.specs.FinMap.{empty}
use Rattle.tx_bytes.specs.Files.{Files}
use Rattle.tx_call.specs.Outcome.{unasked_outcome, with_listed, ForHeld}
use Rattle.tx_call.specs.Trouble.{Does}
use Rattle.tx_call.proofs.Held.{for_any, for_held, does_nothing}
use Rattle.tx_call.proofs.run.run_unasked.Goals as goal

pub returns-in_err-files-clause-does : goal.returns-in_err-files-clause-does
returns-in_err-files-clause-does g c = for_any _ (λ held. does_nothing c.from_residual.result c.in_err-files.field-0.0 c.from_residual.ensures.1 _ _ _)

pub returns-clause-does : goal.returns-clause-does
returns-clause-does g c =
    for_held (subst (λ (names : List (List ℕ)). ForHeld (g.S.Source.holds c.args.source.now) (λ held. c.in_ok-files.files ≡ with_listed held empty names)) c.as_slice.ensures c.in_ok-files.ensures.files)
    (λ held are. subst (λ (files : Files). Does c.open_unasked.result (unasked_outcome g.M.Machine.formatter c.args.serving.now files) (g.K.Sink.output c.args.sink.now) (g.K.Sink.output c.open_unasked.new.sink) c.args.steps.now c.open_unasked.new.steps)
    are c.open_unasked.ensures.does)
