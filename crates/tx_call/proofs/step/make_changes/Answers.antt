use Rattle.std.proofs.Common.{◌≡◌, Err, refl, ap, subst}
use Rattle.tx_session.specs.Refusals.{IsBatchAnswer, IsOutside}
use Rattle.tx_session.specs.Standing.{Standing, now}
use Rattle.tx_session.specs.declared.refusal.Refusal.{Refusal}
use Rattle.tx_session.specs.declared.report.Report.{Report}
use Rattle.tx_call.specs.Tally.{sitting}
use Rattle.tx_call.proofs.Changing.{made-comes, made-comes-in-part, outside-comes, outside-comes-in-part}
use Rattle.tx_call.proofs.Stepping.{goes-in-part}
use Rattle.tx_call.proofs.step.make_changes.Goals as goal

pub returns-in_ok-say_made-in-Ok-clause-goes : goal.returns-in_ok-say_made-in-Ok-clause-goes
returns-in_ok-say_made-in-Ok-clause-goes g c =
    made-comes g.M.Machine.formatter g.D.Document.longest (sitting (g.D.Document.standing c.args.document.now) c.args.tally.now) c.args.together c.args.changes.now
    (g.D.Document.standing c.batch.new.self) c.in-Ok.report c.in-Ok.ensures.answer.0 c.in-Ok.ensures.answer.1 c.in-Ok.ensures.made c.in-Ok.ensures.report
    c.in_ok-say_made-in-Ok.ensures.puts c.in-Ok.ensures.counted

pub returns-in_err-say_made-in-Ok-clause-goes : goal.returns-in_err-say_made-in-Ok-clause-goes
returns-in_err-say_made-in-Ok-clause-goes g c =
    goes-in-part c.from_residual.result _ _ c.from_residual.ensures.0
    (made-comes-in-part g.M.Machine.formatter g.D.Document.longest (sitting (g.D.Document.standing c.args.document.now) c.args.tally.now) c.args.together c.args.changes.now
    (g.D.Document.standing c.batch.new.self) c.in-Ok.report c.in-Ok.ensures.answer.1 c.in-Ok.ensures.made c.in-Ok.ensures.report
    c.in_err-say_made-in-Ok.ensures.puts c.batch.ensures.most)

pub returns-in_ok-say_refused-in-Err-BatchOutside-clause-goes : goal.returns-in_ok-say_refused-in-Err-BatchOutside-clause-goes
returns-in_ok-say_refused-in-Err-BatchOutside-clause-goes g c =
    let outside : IsBatchAnswer {T = Report} (now (g.D.Document.standing c.args.document.now)).files c.args.changes.now (Err c.in-Err-BatchOutside.field-0) = c.in-Err-BatchOutside.ensures.answer in
    let answer = subst (λ (refusal : Refusal). IsBatchAnswer {T = Report} (now (g.D.Document.standing c.args.document.now)).files c.args.changes.now (Err refusal)) c.in-Err-BatchOutside.field-0-is outside in
    outside-comes g.M.Machine.formatter g.D.Document.longest (sitting (g.D.Document.standing c.args.document.now) c.args.tally.now) c.args.together c.args.changes.now
    (g.D.Document.standing c.batch.new.self) c.in-Err-BatchOutside.index c.in-Err-BatchOutside.len answer.0 answer.1 c.in-Err-BatchOutside.ensures.refused
    c.in_ok-say_refused-in-Err-BatchOutside.ensures.puts
    (subst (λ (refusal : Refusal). IsOutside {T = Report} (Err refusal) → c.batch.new.steps ≡ c.args.steps.now) c.in-Err-BatchOutside.field-0-is c.in-Err-BatchOutside.ensures.outside tt)

pub returns-in_err-say_refused-in-Err-BatchOutside-clause-goes : goal.returns-in_err-say_refused-in-Err-BatchOutside-clause-goes
returns-in_err-say_refused-in-Err-BatchOutside-clause-goes g c =
    let outside : IsBatchAnswer {T = Report} (now (g.D.Document.standing c.args.document.now)).files c.args.changes.now (Err c.in-Err-BatchOutside.field-0) = c.in-Err-BatchOutside.ensures.answer in
    let answer = subst (λ (refusal : Refusal). IsBatchAnswer {T = Report} (now (g.D.Document.standing c.args.document.now)).files c.args.changes.now (Err refusal)) c.in-Err-BatchOutside.field-0-is outside in
    goes-in-part c.from_residual-in_err-say_refused-in-Err-BatchOutside.result _ _ c.from_residual-in_err-say_refused-in-Err-BatchOutside.ensures.0
    (outside-comes-in-part g.M.Machine.formatter g.D.Document.longest (sitting (g.D.Document.standing c.args.document.now) c.args.tally.now) c.args.together c.args.changes.now
    c.in-Err-BatchOutside.index c.in-Err-BatchOutside.len answer.1 c.in_err-say_refused-in-Err-BatchOutside.ensures.puts
    (subst (λ (refusal : Refusal). IsOutside {T = Report} (Err refusal) → c.batch.new.steps ≡ c.args.steps.now) c.in-Err-BatchOutside.field-0-is c.in-Err-BatchOutside.ensures.outside tt))

pub returns-in-Err-OutOfMemory-clause-goes : goal.returns-in-Err-OutOfMemory-clause-goes
returns-in-Err-OutOfMemory-clause-goes g c = record {
  sitting_is = ap (λ (s : Standing). sitting s c.args.tally.now) c.in-Err-OutOfMemory.ensures.refused;
  output_is = refl;
  most = c.batch.ensures.most;
}

pub returns-in-Err-OutOfMemory-clause-wanting : goal.returns-in-Err-OutOfMemory-clause-wanting
returns-in-Err-OutOfMemory-clause-wanting g c = λ _.
    subst (λ (refusal : Refusal). IsBatchAnswer {T = Report} (now (g.D.Document.standing c.args.document.now)).files c.args.changes.now (Err refusal)) c.in-Err-OutOfMemory.field-0-is c.in-Err-OutOfMemory.ensures.answer
