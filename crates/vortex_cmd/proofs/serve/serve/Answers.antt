use Rattle.std.proofs.Common.{◌≡◌, inl, ⊎_elim, Err, ap, arith, rules}
use Rattle.tx_main.specs.Turns.{tex}
use Rattle.tx_call.specs.declared.trouble.Trouble.TheVariants.{Memory, Source, Sink}
use Rattle.tx_call.specs.declared.trouble.Break.{Break}
use Rattle.tx_call.specs.declared.trouble.Break.TheVariants.{Trouble as Broken, Inlet}
use Rattle.tx_call.specs.Serving.{serving_held}
use Rattle.tx_words.specs.Words.{words_meant, texts}
use Rattle.tx_call.proofs.ServedFiles.{served-words}
use Rattle.vortex_cmd.proofs.Leaving.{in-part, leaves-all, leaves-at-inlet, leaves-at-source, leaves-in-part, source-rose}
use Rattle.vortex_cmd.proofs.serve.serve.Goals as goal

pub returns-in-Ok-clause-leaves : goal.returns-in-Ok-clause-leaves
returns-in-Ok-clause-leaves g c =
    served-words (words_meant (texts c.args.words.now)) (g.S.Source.holds c.args.source.now) c.in-Ok.ensures.serves
    (λ serving asked held serves. leaves-all tex (serving_held serving held) c.in-Ok.status c.in-Ok.ensures.range serves)

pub returns-in-Err-Inlet-clause-leaves : goal.returns-in-Err-Inlet-clause-leaves
returns-in-Err-Inlet-clause-leaves g c =
    let is : c.in-Err-Inlet.field-0 ≡ Inlet = search rules in
    served-words (words_meant (texts c.args.words.now)) (g.S.Source.holds c.args.source.now) c.in-Err-Inlet.ensures.serves
    (λ serving asked held serves. leaves-at-inlet tex (serving_held serving held) c.in-Err-Inlet.field-0 is serves)

pub returns-in-Err-Trouble-Source-clause-leaves : goal.returns-in-Err-Trouble-Source-clause-leaves
returns-in-Err-Trouble-Source-clause-leaves g c =
    let is : c.in-Err-Trouble-Source.field-0 ≡ Broken Source = search rules in
    let rose =
    source-rose c.in-Err-Trouble-Source.field-0 (g.S.Source.faults c.args.source.now) (g.S.Source.faults c.serve_words.new.source) (g.I.Inlet.faults c.args.inlet.now) (g.I.Inlet.faults c.serve_words.new.inlet) (g.K.Sink.faults c.args.sink.now) (g.K.Sink.faults c.serve_words.new.sink) is
    c.in-Err-Trouble-Source.ensures.causes in
    served-words (words_meant (texts c.args.words.now)) (g.S.Source.holds c.args.source.now) c.in-Err-Trouble-Source.ensures.serves
    (λ serving asked held serves. leaves-at-source tex (serving_held serving held) c.in-Err-Trouble-Source.field-0 is rose
    (c.in-Err-Trouble-Source.ensures.silent (ap (λ (e : Break). Err e) is)) serves)

pub returns-in-Err-Trouble-Sink-clause-leaves : goal.returns-in-Err-Trouble-Sink-clause-leaves
returns-in-Err-Trouble-Sink-clause-leaves g c =
    let is : c.in-Err-Trouble-Sink.field-0 ≡ Broken Sink = search rules in
    served-words (words_meant (texts c.args.words.now)) (g.S.Source.holds c.args.source.now) c.in-Err-Trouble-Sink.ensures.serves
    (λ serving asked held serves. leaves-in-part tex (serving_held serving held) c.in-Err-Trouble-Sink.field-0 Sink 4 is
    (⊎_elim (λ small. omega arith) (λ five. omega arith)) (λ three. omega arith) serves)

pub returns-in-Err-Trouble-Memory-clause-leaves : goal.returns-in-Err-Trouble-Memory-clause-leaves
returns-in-Err-Trouble-Memory-clause-leaves g c =
    let is : c.in-Err-Trouble-Memory.field-0 ≡ Broken Memory = search rules in
    served-words (words_meant (texts c.args.words.now)) (g.S.Source.holds c.args.source.now) c.in-Err-Trouble-Memory.ensures.serves
    (λ serving asked held serves. leaves-in-part tex (serving_held serving held) c.in-Err-Trouble-Memory.field-0 Memory 6 is
    (⊎_elim (λ small. omega arith) (λ five. omega arith)) (λ three. omega arith) serves)

-- what is said where the words ask for something else
pub returns-in-Ok-clause-says : goal.returns-in-Ok-clause-says
returns-in-Ok-clause-says g c = λ none. (in-part (c.in-Ok.ensures.refuses none).0.1, (c.in-Ok.ensures.refuses none).1)

pub returns-in-Ok-clause-refused : goal.returns-in-Ok-clause-refused
returns-in-Ok-clause-refused g c = λ two. (c.in-Ok.ensures.refused two, (c.in-Ok.ensures.refuses (c.in-Ok.ensures.refused two)).0.1)

pub returns-in-Ok-clause-refuses : goal.returns-in-Ok-clause-refuses
returns-in-Ok-clause-refuses g c = λ none. inl (c.in-Ok.ensures.refuses none).0.0

pub returns-in-Err-Inlet-clause-refuses : goal.returns-in-Err-Inlet-clause-refuses
returns-in-Err-Inlet-clause-refuses g c =
    let is : c.in-Err-Inlet.field-0 ≡ Inlet = search rules in
    λ none. absurd (none (c.in-Err-Inlet.ensures.heard (ap (λ (e : Break). Err e) is)))

pub returns-in-Err-Trouble-Source-clause-refuses : goal.returns-in-Err-Trouble-Source-clause-refuses
returns-in-Err-Trouble-Source-clause-refuses g c =
    let is : c.in-Err-Trouble-Source.field-0 ≡ Broken Source = search rules in
    λ none. absurd (none (c.in-Err-Trouble-Source.ensures.fetched (ap (λ (e : Break). Err e) is)))
