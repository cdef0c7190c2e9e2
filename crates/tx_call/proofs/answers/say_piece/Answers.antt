use Rattle.std.proofs.Common.{◌∷◌, [], List, ℕ, Some, ap, subst, ◌∙◌}
use Rattle.std.specs.Prelude.{Option}
use Rattle.tx_io.specs.Output.{Say}
use Rattle.tx_call.specs.Lines.{bytes_text, log_head}
use Rattle.tx_call.specs.Trouble.{PutsOut}
use Rattle.tx_call.proofs.answers.say_piece.Goals as goal

pub returns-in-Some-clause-puts : goal.returns-in-Some-clause-puts
returns-in-Some-clause-puts g c =
    subst (λ (piece : Option (List ℕ)). PutsOut c.say_bytes.result (g.K.Sink.output c.args.sink.now) (Say (bytes_text log_head piece) ∷ []) (g.K.Sink.output c.say_bytes.new.sink))
    (ap Some c.as_slice.ensures ∙ c.in-Some.ensures) c.say_bytes.ensures.puts

pub returns-in-None-clause-puts : goal.returns-in-None-clause-puts
returns-in-None-clause-puts g c =
    subst (λ (piece : Option (List ℕ)). PutsOut c.say_bytes-in-None.result (g.K.Sink.output c.args.sink.now) (Say (bytes_text log_head piece) ∷ []) (g.K.Sink.output c.say_bytes-in-None.new.sink))
    c.in-None.ensures c.say_bytes-in-None.ensures.puts
