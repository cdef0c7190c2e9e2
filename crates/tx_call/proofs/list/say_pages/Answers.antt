use Rattle.std.proofs.Common.{◌≡◌, ℕ, List, ◌∙◌, subst}
use Rattle.tx_io.specs.Cut.{IsCutShort}
use Rattle.tx_io.specs.Output.{told}
use Rattle.tx_call.specs.Listing.{said_lines}
use Rattle.tx_call.specs.Outcome.{listing}
use Rattle.tx_call.specs.declared.listed.Listed.TheVariants.{Brings}
use Rattle.tx_call.specs.declared.trouble.Trouble.TheVariants.{Memory}
use Rattle.tx_call.proofs.Held.{does_nothing, does_listing, does_listing_short}
use Rattle.tx_call.proofs.list.say_pages.Goals as goal

pub returns-in_err-lines-clause-does : goal.returns-in_err-lines-clause-does
returns-in_err-lines-clause-does g c = λ steps. does_nothing c.from_residual.result Memory c.from_residual.ensures.1 (listing (Brings c.args.pages.now)) _ steps

pub returns-in_err-say_lines-clause-does : goal.returns-in_err-say_lines-clause-does
returns-in_err-say_lines-clause-does g c =
    does_listing_short c.args.pages.now c.from_residual-in_err-say_lines.result c.in_err-say_lines.field-0.0 c.from_residual-in_err-say_lines.ensures.1
    (subst (λ (lines : List (List ℕ)). IsCutShort (g.K.Sink.output c.args.sink.now) (said_lines lines) (g.K.Sink.output c.say_lines.new.sink)) (c.as_slice.ensures ∙ c.in_ok-lines.ensures) c.in_err-say_lines.ensures.puts)

pub returns-clause-does : goal.returns-clause-does
returns-clause-does g c =
    does_listing c.args.pages.now
    (subst (λ (lines : List (List ℕ)). g.K.Sink.output c.say_lines.new.sink ≡ told (g.K.Sink.output c.args.sink.now) (said_lines lines)) (c.as_slice.ensures ∙ c.in_ok-lines.ensures) c.in_ok-say_lines.ensures.puts)
