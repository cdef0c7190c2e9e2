use Rattle.std.proofs.Common.{◌≡◌, ℕ, List, refl, inl, inr, rules, subst}
use Rattle.std.proofs.lemmas.Result.{IfOk-weaker}
use Rattle.tx_call.specs.Outcome.{saying}
use Rattle.tx_call.specs.Listing.{NamesNoDvi}
use Rattle.tx_call.specs.Scripts.{NamesNoScript, Unread}
use Rattle.tx_call.specs.Trouble.{Does}
use Rattle.tx_words.specs.Words.{script_asked, dvi_asked, words_meant, texts}
use Rattle.tx_words.specs.declared.given.Asked.{Asked}
use Rattle.tx_call.specs.declared.trouble.Trouble.TheVariants.{Memory}
use Rattle.tx_words.specs.declared.given.Asked.TheVariants.{Run, Serve, Gen, Listing, Help, RunHelp, GenHelp, ListHelp, ServeHelp, Version, Nothing}
use Rattle.tx_call.proofs.Held.{words_do_nothing, of_words, of_words_alone}
use Rattle.tx_call.proofs.run.run_words.Goals as goal

pub returns-in_err-given-clause-does : goal.returns-in_err-given-clause-does
returns-in_err-given-clause-does g c = words_do_nothing g.M.Machine.formatter (texts c.args.words.now) c.from_residual.result Memory c.from_residual.ensures.1

pub returns-in-Run-clause-does : goal.returns-in-Run-clause-does
returns-in-Run-clause-does g c =
    let are : Run c.in-Run.given ≡ words_meant (texts c.args.words.now) = search rules in
    of_words g.M.Machine.formatter (texts c.args.words.now) (Run c.in-Run.given) are c.run_given.ensures.does

pub returns-in-Run-clause-refused : goal.returns-in-Run-clause-refused
returns-in-Run-clause-refused g c =
    let are : Run c.in-Run.given ≡ words_meant (texts c.args.words.now) = search rules in
    IfOk-weaker c.run_given.result _ _
    (λ status refused two. inr (inl (subst (λ (a : Asked). NamesNoScript (g.S.Source.holds c.args.source.now) (script_asked a)) are (refused two)))) c.run_given.ensures.refused

pub returns-in-Serve-clause-does : goal.returns-in-Serve-clause-does
returns-in-Serve-clause-does g c =
    let are : Serve c.in-Serve.serving ≡ words_meant (texts c.args.words.now) = search rules in
    of_words g.M.Machine.formatter (texts c.args.words.now) (Serve c.in-Serve.serving) are (Unread (λ scripted. c.run_unasked.ensures.does))

pub returns-in-Gen-clause-does : goal.returns-in-Gen-clause-does
returns-in-Gen-clause-does g c =
    let are : Gen c.in-Gen.seed c.in-Gen.pages ≡ words_meant (texts c.args.words.now) = search rules in
    of_words_alone g.M.Machine.formatter (texts c.args.words.now) (Gen c.in-Gen.seed c.in-Gen.pages) are (λ scripted held. c.run_gen.ensures.does c.args.steps.now)

pub returns-in-Listing-clause-does : goal.returns-in-Listing-clause-does
returns-in-Listing-clause-does g c =
    let are : Listing c.in-Listing.name ≡ words_meant (texts c.args.words.now) = search rules in
    of_words g.M.Machine.formatter (texts c.args.words.now) (Listing c.in-Listing.name) are (Unread (λ scripted. c.list_file.ensures.does c.args.steps.now))

pub returns-in-Listing-clause-refused : goal.returns-in-Listing-clause-refused
returns-in-Listing-clause-refused g c =
    let are : Listing c.in-Listing.name ≡ words_meant (texts c.args.words.now) = search rules in
    IfOk-weaker c.list_file.result _ _
    (λ status refused two. inr (inr (subst (λ (a : Asked). NamesNoDvi (g.S.Source.holds c.args.source.now) (dvi_asked a)) are (refused two)))) c.list_file.ensures.refused

pub returns-in-Listing-clause-silent : goal.returns-in-Listing-clause-silent
returns-in-Listing-clause-silent g c = λ source. (c.list_file.ensures.silent source, refl)

pub returns-in-Help-clause-does : goal.returns-in-Help-clause-does
returns-in-Help-clause-does g c =
    let are : Help ≡ words_meant (texts c.args.words.now) = search rules in
    of_words_alone g.M.Machine.formatter (texts c.args.words.now) Help are
    (λ scripted held. subst (λ (text : List ℕ). Does c.say_only.result (saying text 0) (g.K.Sink.output c.args.sink.now) (g.K.Sink.output c.say_only.new.sink) c.args.steps.now c.args.steps.now)
    c.help_text.ensures (c.say_only.ensures.does c.args.steps.now))

pub returns-in-RunHelp-clause-does : goal.returns-in-RunHelp-clause-does
returns-in-RunHelp-clause-does g c =
    let are : RunHelp ≡ words_meant (texts c.args.words.now) = search rules in
    of_words_alone g.M.Machine.formatter (texts c.args.words.now) RunHelp are
    (λ scripted held. subst (λ (text : List ℕ). Does c.say_only-in-RunHelp.result (saying text 0) (g.K.Sink.output c.args.sink.now) (g.K.Sink.output c.say_only-in-RunHelp.new.sink) c.args.steps.now c.args.steps.now)
    c.run_help_text.ensures (c.say_only-in-RunHelp.ensures.does c.args.steps.now))

pub returns-in-GenHelp-clause-does : goal.returns-in-GenHelp-clause-does
returns-in-GenHelp-clause-does g c =
    let are : GenHelp ≡ words_meant (texts c.args.words.now) = search rules in
    of_words_alone g.M.Machine.formatter (texts c.args.words.now) GenHelp are
    (λ scripted held. subst (λ (text : List ℕ). Does c.say_only-in-GenHelp.result (saying text 0) (g.K.Sink.output c.args.sink.now) (g.K.Sink.output c.say_only-in-GenHelp.new.sink) c.args.steps.now c.args.steps.now)
    c.gen_help_text.ensures (c.say_only-in-GenHelp.ensures.does c.args.steps.now))

pub returns-in-ListHelp-clause-does : goal.returns-in-ListHelp-clause-does
returns-in-ListHelp-clause-does g c =
    let are : ListHelp ≡ words_meant (texts c.args.words.now) = search rules in
    of_words_alone g.M.Machine.formatter (texts c.args.words.now) ListHelp are
    (λ scripted held. subst (λ (text : List ℕ). Does c.say_only-in-ListHelp.result (saying text 0) (g.K.Sink.output c.args.sink.now) (g.K.Sink.output c.say_only-in-ListHelp.new.sink) c.args.steps.now c.args.steps.now)
    c.list_help_text.ensures (c.say_only-in-ListHelp.ensures.does c.args.steps.now))

pub returns-in-ServeHelp-clause-does : goal.returns-in-ServeHelp-clause-does
returns-in-ServeHelp-clause-does g c =
    let are : ServeHelp ≡ words_meant (texts c.args.words.now) = search rules in
    of_words_alone g.M.Machine.formatter (texts c.args.words.now) ServeHelp are
    (λ scripted held. subst (λ (text : List ℕ). Does c.say_only-in-ServeHelp.result (saying text 0) (g.K.Sink.output c.args.sink.now) (g.K.Sink.output c.say_only-in-ServeHelp.new.sink) c.args.steps.now c.args.steps.now)
    c.serve_help_text.ensures (c.say_only-in-ServeHelp.ensures.does c.args.steps.now))

pub returns-in-Version-clause-does : goal.returns-in-Version-clause-does
returns-in-Version-clause-does g c =
    let are : Version ≡ words_meant (texts c.args.words.now) = search rules in
    of_words_alone g.M.Machine.formatter (texts c.args.words.now) Version are
    (λ scripted held. subst (λ (text : List ℕ). Does c.say_only-in-Version.result (saying text 0) (g.K.Sink.output c.args.sink.now) (g.K.Sink.output c.say_only-in-Version.new.sink) c.args.steps.now c.args.steps.now)
    c.version_line.ensures (c.say_only-in-Version.ensures.does c.args.steps.now))

pub returns-in-Nothing-clause-does : goal.returns-in-Nothing-clause-does
returns-in-Nothing-clause-does g c =
    let are : Nothing ≡ words_meant (texts c.args.words.now) = search rules in
    of_words_alone g.M.Machine.formatter (texts c.args.words.now) Nothing are (λ scripted held. c.say_only-in-Nothing.ensures.does c.args.steps.now)
