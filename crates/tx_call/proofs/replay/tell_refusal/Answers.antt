use Rattle.std.proofs.Common.{◌≡◌, ◌+◌, ◌∷◌, [], List, ℕ, rules, subst}
use Rattle.tx_io.specs.Output.{Say, told}
use Rattle.tx_io.specs.Cut.{IsCutShort}
use Rattle.tx_session.specs.Held.{fresh}
use Rattle.tx_call.specs.Lines.{memory_line}
use Rattle.tx_call.specs.Pieces.{saved_pieces}
use Rattle.tx_call.proofs.Puts.{puts-first, puts-behind}
use Rattle.tx_call.proofs.replay.tell_refusal.Goals as goal

pub returns-in_err-say-clause-puts : goal.returns-in_err-say-clause-puts
returns-in_err-say-clause-puts g c =
    let line : c.as_slice.result.now ≡ memory_line (c.args.tally.edits + 1) = search rules in
    puts-first _ (Say (memory_line (c.args.tally.edits + 1)) ∷ []) (saved_pieces c.args.out.now (fresh g.M.Machine.formatter c.args.session.now).ran) c.from_residual-in_err-say.ensures.0
    (subst (λ (text : List ℕ). IsCutShort (g.K.Sink.output c.args.sink.now) (Say text ∷ []) (g.K.Sink.output c.say.new.sink)) line c.in_err-say.ensures.puts)

pub returns-clause-puts : goal.returns-clause-puts
returns-clause-puts g c =
    let line : c.as_slice.result.now ≡ memory_line (c.args.tally.edits + 1) = search rules in
    puts-behind c.save_document.result _ (Say (memory_line (c.args.tally.edits + 1)) ∷ []) (saved_pieces c.args.out.now (fresh g.M.Machine.formatter c.args.session.now).ran) _
    (subst (λ (text : List ℕ). g.K.Sink.output c.say.new.sink ≡ told (g.K.Sink.output c.args.sink.now) (Say text ∷ [])) line c.in_ok-say.ensures.puts) c.save_document.ensures.puts
