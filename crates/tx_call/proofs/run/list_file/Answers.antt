use Rattle.std.proofs.Common.{◌≡◌, ℕ, List, subst}
use Rattle.std.proofs.lemmas.Result.{IfOk-weaker}
use Rattle.tx_dvitype.specs.declared.reader.ReadPage.{ReadPage}
use Rattle.tx_call.specs.Listing.{ReadsDvi}
use Rattle.tx_call.specs.Outcome.{listing}
use Rattle.tx_call.specs.Trouble.{Does}
use Rattle.tx_call.specs.declared.listed.Listed.{Listed}
use Rattle.tx_call.specs.declared.listed.Listed.TheVariants.{Brings, Stops}
use Rattle.tx_call.proofs.Held.{for_any, does_nothing}
use Rattle.tx_call.proofs.Dvi.{listed_does, names_none, brings_some}
use Rattle.tx_call.proofs.run.list_file.Goals as goal

pub returns-in_err-pages-clause-does : goal.returns-in_err-pages-clause-does
returns-in_err-pages-clause-does g c = λ steps. for_any _ (λ held. does_nothing c.from_residual.result c.in_err-pages.field-0.0 c.from_residual.ensures.1 _ _ _)

pub returns-in-Brings-clause-does : goal.returns-in-Brings-clause-does
returns-in-Brings-clause-does g c = λ steps.
    listed_does (g.S.Source.holds c.args.source.now) c.args.name.now (Brings c.in-Brings.pages)
    (subst (λ (l : Listed). ReadsDvi (g.S.Source.holds c.args.source.now) c.args.name.now l) c.in-Brings.is c.in_ok-pages.ensures.read)
    (subst (λ (pages : List ReadPage). Does c.say_pages.result (listing (Brings pages)) (g.K.Sink.output c.args.sink.now) (g.K.Sink.output c.say_pages.new.sink) steps steps) c.as_slice.ensures (c.say_pages.ensures.does steps))

pub returns-in-Stops-clause-does : goal.returns-in-Stops-clause-does
returns-in-Stops-clause-does g c = λ steps.
    listed_does (g.S.Source.holds c.args.source.now) c.args.name.now (Stops c.in-Stops.place c.in-Stops.rule)
    (subst (λ (l : Listed). ReadsDvi (g.S.Source.holds c.args.source.now) c.args.name.now l) c.in-Stops.is c.in_ok-pages.ensures.read)
    (c.refuse_dvi.ensures.does steps)

pub returns-in-Stops-clause-refused : goal.returns-in-Stops-clause-refused
returns-in-Stops-clause-refused g c =
    IfOk-weaker c.refuse_dvi.result _ _
    (λ status is two. names_none (g.S.Source.holds c.args.source.now) c.args.name.now c.in-Stops.place c.in-Stops.rule
    (subst (λ (l : Listed). ReadsDvi (g.S.Source.holds c.args.source.now) c.args.name.now l) c.in-Stops.is c.in_ok-pages.ensures.read)) c.refuse_dvi.ensures.status

pub returns-in-Brings-clause-refuses : goal.returns-in-Brings-clause-refuses
returns-in-Brings-clause-refuses g c = λ none.
    absurd (brings_some (g.S.Source.holds c.args.source.now) c.args.name.now c.in-Brings.pages
    (subst (λ (l : Listed). ReadsDvi (g.S.Source.holds c.args.source.now) c.args.name.now l) c.in-Brings.is c.in_ok-pages.ensures.read) none)
