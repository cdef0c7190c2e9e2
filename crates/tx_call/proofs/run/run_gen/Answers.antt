use Rattle.std.proofs.Common.{◌≡◌, [], ◌∷◌, ◌++◌, subst}
use Rattle.tx_gen.specs.declared.made.Made.{Made}
use Rattle.tx_io.specs.Cut.{IsCutShort}
use Rattle.tx_io.specs.Output.{Say, told}
use Rattle.tx_call.specs.Lines.{gen_line}
use Rattle.tx_call.specs.Outcome.{making}
use Rattle.tx_call.specs.Pieces.{made_files}
use Rattle.tx_call.specs.declared.trouble.Trouble.TheVariants.{Memory}
use Rattle.tx_call.proofs.Held.{does_nothing, does_making, does_making_short}
use Rattle.tx_call.proofs.run.run_gen.Goals as goal

pub returns-in_err-made-clause-does : goal.returns-in_err-made-clause-does
returns-in_err-made-clause-does g c = λ steps. does_nothing c.from_residual.result Memory c.from_residual.ensures.1 (making c.args.seed c.args.pages) _ steps

pub returns-in_err-put_made-clause-does : goal.returns-in_err-put_made-clause-does
returns-in_err-put_made-clause-does g c =
    does_making_short c.args.seed c.args.pages c.from_residual-in_err-put_made.result c.in_err-put_made.field-0.0 c.from_residual-in_err-put_made.ensures.1
    (subst (λ (made : Made). IsCutShort (g.K.Sink.output c.args.sink.now) (made_files made ++ Say (gen_line c.args.pages) ∷ []) (g.K.Sink.output c.put_made.new.sink))
    c.in_ok-made.ensures.made c.in_err-put_made.ensures.puts)

pub returns-clause-does : goal.returns-clause-does
returns-clause-does g c =
    does_making c.args.seed c.args.pages
    (subst (λ (made : Made). g.K.Sink.output c.put_made.new.sink ≡ told (g.K.Sink.output c.args.sink.now) (made_files made ++ Say (gen_line c.args.pages) ∷ []))
    c.in_ok-made.ensures.made c.in_ok-put_made.ensures.puts)
