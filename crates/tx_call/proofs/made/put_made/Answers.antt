use Rattle.std.proofs.Common.{◌≡◌, List, ℕ, [], ◌∷◌, rules, subst}
use Rattle.tx_io.specs.Output.{Say}
use Rattle.tx_call.specs.Lines.{gen_line}
use Rattle.tx_call.specs.Pieces.{made_files}
use Rattle.tx_call.specs.Trouble.{PutsOut}
use Rattle.tx_call.proofs.Puts.{puts-first, puts-behind}
use Rattle.tx_call.proofs.made.put_made.Goals as goal

pub returns-in_err-save_made-clause-puts : goal.returns-in_err-save_made-clause-puts
returns-in_err-save_made-clause-puts g c =
    puts-first _ (made_files c.args.made.now) (Say (gen_line c.args.pages) ∷ []) c.from_residual-in_err-save_made.ensures.0 c.in_err-save_made.ensures.puts

pub returns-clause-puts : goal.returns-clause-puts
returns-clause-puts g c =
    let line : c.as_slice.result.now ≡ gen_line c.args.pages = search rules in
    puts-behind c.say.result _ (made_files c.args.made.now) (Say (gen_line c.args.pages) ∷ []) _ c.in_ok-save_made.ensures.puts
    (subst (λ (text : List ℕ). PutsOut c.say.result (g.K.Sink.output c.save_made.new.sink) (Say text ∷ []) (g.K.Sink.output c.say.new.sink)) line c.say.ensures.puts)
