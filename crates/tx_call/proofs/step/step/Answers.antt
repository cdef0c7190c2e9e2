use Rattle.std.proofs.Common.{◌≡◌, true, false, List, ap, subst, sym, ◌∙◌}
use Rattle.std.specs.Prelude.{IfOk}
use Rattle.tx_files.specs.declared.edit.Change.{Change}
use Rattle.tx_script.specs.declared.command.Command.{Command}
use Rattle.tx_session.specs.Refusals.{may_want}
use Rattle.tx_session.specs.Standing.{now}
use Rattle.tx_call.specs.declared.step.Stepped.{Stepped}
use Rattle.tx_call.specs.declared.step.Stepped.TheVariants.{Wanting}
use Rattle.tx_call.specs.Replay.{MayWant}
use Rattle.tx_call.specs.Sitting.{Effect, Goes, edit_effect, effect}
use Rattle.tx_call.specs.Tally.{sitting}
use Rattle.tx_call.proofs.Stepping.{each-ok, goes-in-part, saved-comes, saved-in-part, located-comes, located-in-part}
use Rattle.tx_call.proofs.step.step.Goals as goal

pub returns-in-Change-clause-goes : goal.returns-in-Change-clause-goes
returns-in-Change-clause-goes g c =
    subst (λ (e : Effect). Goes c.make_changes.result e (sitting (g.D.Document.standing c.args.document.now) c.args.tally.now) (sitting (g.D.Document.standing c.make_changes.new.document) c.make_changes.new.tally)
    (g.K.Sink.output c.args.sink.now) (g.K.Sink.output c.make_changes.new.sink) c.args.steps.now c.make_changes.new.steps)
    (ap (edit_effect g.M.Machine.formatter g.D.Document.longest (sitting (g.D.Document.standing c.args.document.now) c.args.tally.now) false) c.from_ref-changes.ensures.value
    ∙ ap (effect g.M.Machine.formatter g.D.Document.longest (sitting (g.D.Document.standing c.args.document.now) c.args.tally.now)) (sym c.in-Change.is)) c.make_changes.ensures.goes

pub returns-in-Change-clause-wanting : goal.returns-in-Change-clause-wanting
returns-in-Change-clause-wanting g c =
    subst (λ (command : Command). IfOk c.make_changes.result (λ (stepped : Stepped). stepped ≡ Wanting → MayWant (now (g.D.Document.standing c.args.document.now)).files command)) (sym c.in-Change.is)
    (subst (λ (changes : List Change). IfOk c.make_changes.result (λ (stepped : Stepped). stepped ≡ Wanting → may_want (now (g.D.Document.standing c.args.document.now)).files changes ≡ true)) c.from_ref-changes.ensures.value c.make_changes.ensures.wanting)

pub returns-in-Batch-clause-goes : goal.returns-in-Batch-clause-goes
returns-in-Batch-clause-goes g c =
    subst (λ (e : Effect). Goes c.make_changes-in-Batch.result e (sitting (g.D.Document.standing c.args.document.now) c.args.tally.now) (sitting (g.D.Document.standing c.make_changes-in-Batch.new.document) c.make_changes-in-Batch.new.tally)
    (g.K.Sink.output c.args.sink.now) (g.K.Sink.output c.make_changes-in-Batch.new.sink) c.args.steps.now c.make_changes-in-Batch.new.steps)
    (ap (edit_effect g.M.Machine.formatter g.D.Document.longest (sitting (g.D.Document.standing c.args.document.now) c.args.tally.now) true) c.as_slice-changes.ensures
    ∙ ap (effect g.M.Machine.formatter g.D.Document.longest (sitting (g.D.Document.standing c.args.document.now) c.args.tally.now)) (sym c.in-Batch.is)) c.make_changes-in-Batch.ensures.goes

pub returns-in-Batch-clause-wanting : goal.returns-in-Batch-clause-wanting
returns-in-Batch-clause-wanting g c =
    subst (λ (command : Command). IfOk c.make_changes-in-Batch.result (λ (stepped : Stepped). stepped ≡ Wanting → MayWant (now (g.D.Document.standing c.args.document.now)).files command)) (sym c.in-Batch.is)
    (subst (λ (changes : List Change). IfOk c.make_changes-in-Batch.result (λ (stepped : Stepped). stepped ≡ Wanting → may_want (now (g.D.Document.standing c.args.document.now)).files changes ≡ true)) c.as_slice-changes.ensures c.make_changes-in-Batch.ensures.wanting)

pub returns-in_ok-save_document-in-Save-clause-goes : goal.returns-in_ok-save_document-in-Save-clause-goes
returns-in_ok-save_document-in-Save-clause-goes g c =
    saved-comes g.M.Machine.formatter g.D.Document.longest (sitting (g.D.Document.standing c.args.document.now) c.args.tally.now) c.args.command.now c.in-Save.name c.args.steps.now c.in-Save.is c.in_ok-save_document-in-Save.ensures.puts

pub returns-in_err-save_document-in-Save-clause-goes : goal.returns-in_err-save_document-in-Save-clause-goes
returns-in_err-save_document-in-Save-clause-goes g c =
    goes-in-part c.from_residual.result _ _ c.from_residual.ensures.0
    (saved-in-part g.M.Machine.formatter g.D.Document.longest (sitting (g.D.Document.standing c.args.document.now) c.args.tally.now) c.args.command.now c.in-Save.name c.args.steps.now c.in-Save.is c.in_err-save_document-in-Save.ensures.puts)

pub returns-in_ok-say_located-in-Locate-clause-goes : goal.returns-in_ok-say_located-in-Locate-clause-goes
returns-in_ok-say_located-in-Locate-clause-goes g c =
    located-comes g.M.Machine.formatter g.D.Document.longest (sitting (g.D.Document.standing c.args.document.now) c.args.tally.now) c.args.command.now c.in-Locate.at c.args.steps.now c.in-Locate.is c.in_ok-say_located-in-Locate.ensures.puts

pub returns-in_err-say_located-in-Locate-clause-goes : goal.returns-in_err-say_located-in-Locate-clause-goes
returns-in_err-say_located-in-Locate-clause-goes g c =
    goes-in-part c.from_residual-in_err-say_located-in-Locate.result _ _ c.from_residual-in_err-say_located-in-Locate.ensures.0
    (located-in-part g.M.Machine.formatter g.D.Document.longest (sitting (g.D.Document.standing c.args.document.now) c.args.tally.now) c.args.command.now c.in-Locate.at c.args.steps.now c.in-Locate.is c.in_err-say_located-in-Locate.ensures.puts)
