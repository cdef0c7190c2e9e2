use Rattle.std.proofs.Common.{◌≡◌, ◌∷◌, List, ℕ, [], refl, sym, ap, subst, ◌∙◌}
use Rattle.tx_io.specs.Output.{Piece, Say, told}
use Rattle.tx_io.proofs.CutShort.{cut-nothing}
use Rattle.tx_script.specs.declared.command.Command.{Command}
use Rattle.tx_script.specs.declared.command.Command.TheVariants.{Change, Batch, Save, Locate}
use Rattle.tx_call.specs.Answers.{saved_answer}
use Rattle.tx_call.specs.Lines.{saved_line}
use Rattle.tx_call.specs.Trouble.{PutsOut}
use Rattle.tx_call.proofs.Puts.{puts-cut}
use Rattle.tx_call.proofs.answers.tell_saved.Goals as goal

-- what asks for no save has no such answer
unsaved : (c : Command) → ((name : List ℕ) → c ≡ Save name → ⊥) → saved_answer c ≡ []
unsaved (Change change) not = refl
unsaved (Batch changes) not = refl
unsaved (Save name) not = absurd (not name refl)
unsaved (Locate at) not = refl

pub returns-in_default-clause-puts : goal.returns-in_default-clause-puts
returns-in_default-clause-puts g c = ap (told (g.K.Sink.output c.args.sink.now)) (sym (unsaved c.args.command.now c.in_default.not-Save))

pub returns-in_err-line-clause-puts : goal.returns-in_err-line-clause-puts
returns-in_err-line-clause-puts g c = puts-cut c.from_residual.result c.from_residual.ensures.0 (cut-nothing _ _)

pub returns-clause-puts : goal.returns-clause-puts
returns-clause-puts g c =
    let line : c.as_slice-2.result.now ≡ saved_line c.in-Save.name = c.as_slice-2.ensures ∙ c.in_ok-line.ensures ∙ ap saved_line c.as_slice.ensures.bytes in
    subst (λ (pieces : List Piece). PutsOut c.say.result (g.K.Sink.output c.args.sink.now) pieces (g.K.Sink.output c.say.new.sink))
    (ap (λ (text : List ℕ). Say text ∷ []) line ∙ ap saved_answer (sym c.in-Save.is)) c.say.ensures.puts
