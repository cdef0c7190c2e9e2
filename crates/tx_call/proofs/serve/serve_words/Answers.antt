use Rattle.std.proofs.Common.{◌≡◌, ℕ, refl, rules, sym}
use Rattle.tx_io.proofs.CutShort.{cut-nothing}
use Rattle.tx_call.specs.Hearing.{ServesFiles}
use Rattle.tx_call.specs.Outcome.{ForHeld}
use Rattle.tx_call.specs.Serving.{AsksForNone, serving_held}
use Rattle.tx_call.specs.declared.trouble.Trouble.TheVariants.{Memory}
use Rattle.tx_words.specs.Words.{words_meant, texts}
use Rattle.tx_words.specs.declared.given.Asked.TheVariants.{Serve}
use Rattle.tx_words.specs.declared.given.Serving.{Serving}
use Rattle.tx_call.proofs.Held.{for_any}
use Rattle.tx_call.proofs.ServedFiles.{served-nothing, serves-short, serves-none, serves-this, asks-for-none, refuses-short, refused-range, if-any, causes-served, never-source, never-inlet}
use Rattle.tx_call.proofs.serve.serve_words.Goals as goal

pub returns-in_err-serving-clause-serves : goal.returns-in_err-serving-clause-serves
returns-in_err-serving-clause-serves g c = λ serving is.
    for_any _ (λ held. serves-short g.M.Machine.formatter (serving_held serving held) c.from_residual.result Memory (g.I.Inlet.left c.args.inlet.now) (g.I.Inlet.left c.args.inlet.now) (g.K.Sink.output c.args.sink.now) (g.K.Sink.output c.args.sink.now) c.args.steps.now c.args.steps.now
    c.from_residual.ensures.1 (served-nothing g.M.Machine.formatter (serving_held serving held) refl refl))

pub returns-in_err-serving-clause-refuses : goal.returns-in_err-serving-clause-refuses
returns-in_err-serving-clause-refuses g c = λ none. (refuses-short c.from_residual.result Memory (g.K.Sink.output c.args.sink.now) (g.K.Sink.output c.args.sink.now) c.from_residual.ensures.1 (cut-nothing _ _), refl)

pub returns-in-Serve-clause-serves : goal.returns-in-Serve-clause-serves
returns-in-Serve-clause-serves g c =
    let are : Serve c.in-Serve.serving ≡ words_meant (texts c.args.words.now) = search rules in
    serves-this (words_meant (texts c.args.words.now)) c.in-Serve.serving are
    (λ (serving : Serving). ForHeld (g.S.Source.holds c.args.source.now) (λ held. ServesFiles g.M.Machine.formatter (serving_held serving held) (g.I.Inlet.left c.args.inlet.now) (g.I.Inlet.left c.serve_listed.new.inlet) c.serve_listed.result (g.K.Sink.output c.args.sink.now) (g.K.Sink.output c.serve_listed.new.sink) c.args.steps.now c.serve_listed.new.steps))
    c.serve_listed.ensures.serves

pub returns-in-Serve-clause-refuses : goal.returns-in-Serve-clause-refuses
returns-in-Serve-clause-refuses g c =
    let are : Serve c.in-Serve.serving ≡ words_meant (texts c.args.words.now) = search rules in
    λ none. absurd (none (c.in-Serve.serving, sym are))

pub returns-in-Serve-clause-fetched : goal.returns-in-Serve-clause-fetched
returns-in-Serve-clause-fetched g c =
    let are : Serve c.in-Serve.serving ≡ words_meant (texts c.args.words.now) = search rules in
    λ source. (c.in-Serve.serving, sym are)

pub returns-in-Serve-clause-heard : goal.returns-in-Serve-clause-heard
returns-in-Serve-clause-heard g c =
    let are : Serve c.in-Serve.serving ≡ words_meant (texts c.args.words.now) = search rules in
    λ inlet. (c.in-Serve.serving, sym are)

pub returns-in_default-clause-serves : goal.returns-in_default-clause-serves
returns-in_default-clause-serves g c =
    let none : AsksForNone (words_meant (texts c.args.words.now)) = asks-for-none _ (words_meant (texts c.args.words.now)) c.in_ok-serving.ensures.asked c.in_default.not-Serve in
    serves-none (words_meant (texts c.args.words.now))
    (λ (serving : Serving). ForHeld (g.S.Source.holds c.args.source.now) (λ held. ServesFiles g.M.Machine.formatter (serving_held serving held) (g.I.Inlet.left c.args.inlet.now) (g.I.Inlet.left c.args.inlet.now) c.refuse_words.result (g.K.Sink.output c.args.sink.now) (g.K.Sink.output c.refuse_words.new.sink) c.args.steps.now c.args.steps.now)) none

pub returns-in_default-clause-refuses : goal.returns-in_default-clause-refuses
returns-in_default-clause-refuses g c = λ none. (c.refuse_words.ensures.refuses, refl)

pub returns-in_default-clause-range : goal.returns-in_default-clause-range
returns-in_default-clause-range g c = refused-range c.refuse_words.result (g.K.Sink.output c.args.sink.now) (g.K.Sink.output c.refuse_words.new.sink) c.refuse_words.ensures.refuses

pub returns-in_default-clause-refused : goal.returns-in_default-clause-refused
returns-in_default-clause-refused g c =
    let none : AsksForNone (words_meant (texts c.args.words.now)) = asks-for-none _ (words_meant (texts c.args.words.now)) c.in_ok-serving.ensures.asked c.in_default.not-Serve in
    if-any c.refuse_words.result (λ (status : ℕ). status ≡ 2 → AsksForNone (words_meant (texts c.args.words.now))) (λ status two. none)

pub returns-in_default-clause-fetched : goal.returns-in_default-clause-fetched
returns-in_default-clause-fetched g c = λ source. absurd (never-source c.refuse_words.result 0 0 (g.K.Sink.faults c.args.sink.now) (g.K.Sink.faults c.refuse_words.new.sink) (c.refuse_words.ensures.causes 0) source)

pub returns-in_default-clause-heard : goal.returns-in_default-clause-heard
returns-in_default-clause-heard g c = λ inlet. absurd (never-inlet c.refuse_words.result (g.K.Sink.faults c.args.sink.now) (g.K.Sink.faults c.refuse_words.new.sink) (c.refuse_words.ensures.causes 0) inlet)

pub returns-in_default-clause-silent : goal.returns-in_default-clause-silent
returns-in_default-clause-silent g c = λ source. absurd (never-source c.refuse_words.result 0 0 (g.K.Sink.faults c.args.sink.now) (g.K.Sink.faults c.refuse_words.new.sink) (c.refuse_words.ensures.causes 0) source)

pub returns-in_default-clause-causes : goal.returns-in_default-clause-causes
returns-in_default-clause-causes g c =
    causes-served c.refuse_words.result (g.S.Source.faults c.args.source.now) (g.S.Source.faults c.args.source.now) (g.I.Inlet.faults c.args.inlet.now) (g.I.Inlet.faults c.args.inlet.now) (g.K.Sink.faults c.args.sink.now) (g.K.Sink.faults c.refuse_words.new.sink)
    refl (c.refuse_words.ensures.causes (g.I.Inlet.faults c.args.inlet.now))
