use Rattle.std.proofs.Common.{ℕ, List, ◌∷◌, [], Err, sym, ap, subst, ◌∙◌}
use Rattle.tx_files.specs.Edits.{restored, CanRestore}
use Rattle.tx_files.specs.Changes.{IsAnswerToAll, IsOutside}
use Rattle.tx_files.specs.declared.before.Before.{Before}
use Rattle.tx_files.specs.declared.edit.BatchRefusal.{BatchRefusal}
use Rattle.tx_files.specs.declared.edit.Change.TheVariants.{Edit}
use Rattle.tx_files.specs.declared.edit.Refusal.TheVariants as edits
use Rattle.tx_files.specs.declared.edit.Undo.{Undo}
use Rattle.tx_files.proofs.Changing.{alone-fits, alone-refused}
use Rattle.tx_files.proofs.file_set.FileSet.change_one.Goals as goal

pub returns-in-Ok-clause-answer : goal.returns-in-Ok-clause-answer
returns-in-Ok-clause-answer c = alone-fits c.args.self.now c.args.e.now c.in-Ok.ensures.answer

pub returns-in-Err-clause-answer : goal.returns-in-Err-clause-answer
returns-in-Err-clause-answer c =
    subst (λ (refusal : BatchRefusal). IsAnswerToAll {T = Before} c.args.self.now (Edit c.args.e.now ∷ []) (Err refusal)) (sym c.numbered.ensures)
    (alone-refused Undo Before c.args.self.now c.args.e.now c.in-Err.refusal c.in-Err.ensures.answer)

pub returns-in-Ok-clause-can : goal.returns-in-Ok-clause-can
returns-in-Ok-clause-can c = subst (λ (name : List ℕ). CanRestore c.change.new.self name c.in-Ok.undo) (sym c.in_ok-name.ensures.cases) c.in-Ok.ensures.can

pub returns-in-Ok-clause-back : goal.returns-in-Ok-clause-back
returns-in-Ok-clause-back c = ap (λ (name : List ℕ). restored c.change.new.self name c.in-Ok.undo) c.in_ok-name.ensures.cases ∙ c.in-Ok.ensures.back

pub returns-in-Some-clause-answer : goal.returns-in-Some-clause-answer
returns-in-Some-clause-answer c =
    alone-refused Undo Before c.args.self.now c.args.e.now (edits.Outside c.in-Some.len) (subst (IsOutside c.args.self.now c.args.e.now) c.in-Some.is c.outside-outside.ensures)
