use Rattle.std.proofs.Common.{◌≡◌, ◌≤◌, ◌+◌, ◌*◌, ◌∷◌, [], true, List, length, ap, subst, ◌∙◌}
use Rattle.std.specs.Prelude.{IfOk, OnOk}
use Rattle.tx_files.specs.Changes.{IsOutside as IsPast}
use Rattle.tx_files.specs.Edits.{fits_in}
use Rattle.tx_files.specs.declared.edit.Change.{Change}
use Rattle.tx_files.specs.declared.edit.Change.TheVariants.{Edit}
use Rattle.tx_files.specs.declared.edit.Edit.{Edit as FileEdit}
use Rattle.tx_machine.specs.Steps.{raised}
use Rattle.tx_session.specs.Held.{fresh, changed_session}
use Rattle.tx_session.specs.Refusals.{IsBatchAnswer}
use Rattle.tx_session.specs.Report.{report, work, turns_of_changes}
use Rattle.tx_session.proofs.Refusing.{edit-answer, edit-memory, edit-turns}
use Rattle.tx_session.proofs.session.Session.edit.Goals as goal

pub returns-in-Some-clause-answer : goal.returns-in-Some-clause-answer
returns-in-Some-clause-answer g c = subst (IsPast c.args.self.now.files c.args.e.now) c.in-Some.is c.outside-outside.ensures

pub returns-in_err-copy-clause-answer : goal.returns-in_err-copy-clause-answer
returns-in_err-copy-clause-answer g c =
    edit-memory c.args.self.now.files c.args.e.now c.from_residual.result c.from_residual.ensures.1 (subst (IsPast c.args.self.now.files c.args.e.now) c.in_default.is c.outside-outside.ensures)

pub returns-clause-answer : goal.returns-clause-answer
returns-clause-answer g c =
    let are : c.from_ref.result.now ≡ Edit c.args.e.now ∷ [] = c.from_ref.ensures.value ∙ ap (λ (copy : FileEdit). Edit copy ∷ []) c.in_ok-copy.ensures.cases in
    let fit : fits_in c.args.self.now.files c.args.e.now ≡ true = subst (IsPast c.args.self.now.files c.args.e.now) c.in_default.is c.outside-outside.ensures in
    edit-answer c.args.self.now.files c.args.e.now c.batch.result fit (subst (λ (changes : List Change). IsBatchAnswer c.args.self.now.files changes c.batch.result) are c.batch.ensures.answer)

pub returns-clause-held : goal.returns-clause-held
returns-clause-held g c =
    subst (λ (changes : List Change). OnOk c.batch.result (c.batch.new.self ≡ changed_session c.args.self.now changes)) (c.from_ref.ensures.value ∙ ap (λ (copy : FileEdit). Edit copy ∷ []) c.in_ok-copy.ensures.cases) c.batch.ensures.held

pub returns-clause-report : goal.returns-clause-report
returns-clause-report g c =
    subst (λ (changes : List Change). IfOk c.batch.result (λ answer. answer ≡ report g.M.Machine.formatter c.args.self.now changes)) (c.from_ref.ensures.value ∙ ap (λ (copy : FileEdit). Edit copy ∷ []) c.in_ok-copy.ensures.cases) c.batch.ensures.report

pub returns-clause-counted : goal.returns-clause-counted
returns-clause-counted g c =
    subst (λ (changes : List Change). OnOk c.batch.result (c.batch.new.steps ≡ raised c.args.steps.now (work g.M.Machine.formatter c.args.self.now changes))) (c.from_ref.ensures.value ∙ ap (λ (copy : FileEdit). Edit copy ∷ []) c.in_ok-copy.ensures.cases) c.batch.ensures.counted

pub returns-clause-most : goal.returns-clause-most
returns-clause-most g c =
    subst (λ turns. c.batch.new.steps ≤ raised c.args.steps.now turns) (edit-turns g.M.Machine.formatter c.args.self.now c.args.e.now)
    (subst (λ (changes : List Change). c.batch.new.steps ≤ raised c.args.steps.now (turns_of_changes g.M.Machine.formatter c.args.self.now changes)) (c.from_ref.ensures.value ∙ ap (λ (copy : FileEdit). Edit copy ∷ []) c.in_ok-copy.ensures.cases) c.batch.ensures.most)

pub returns-clause-bound : goal.returns-clause-bound
returns-clause-bound g c =
    subst (λ (changes : List Change). c.batch.new.steps ≤ c.args.steps.now + (length (fresh g.M.Machine.formatter (changed_session c.args.self.now changes)).ran.pages + 1) * c.args.self.now.limits.budget)
    (c.from_ref.ensures.value ∙ ap (λ (copy : FileEdit). Edit copy ∷ []) c.in_ok-copy.ensures.cases) c.batch.ensures.bound
