use Rattle.std.proofs.Common.{Err, sym, subst}
use Rattle.tx_files.specs.Changes.{IsAnswerToOne}
use Rattle.tx_files.specs.declared.edit.BatchRefusal.{BatchRefusal}
use Rattle.tx_files.specs.declared.edit.Change.TheVariants.{Edit}
use Rattle.tx_files.proofs.Changing.{edit-answer}
use Rattle.tx_files.proofs.file_set.FileSet.make_edit.Goals as goal

pub returns-in-Err-clause-answer : goal.returns-in-Err-clause-answer
returns-in-Err-clause-answer c =
    subst (λ (refusal : BatchRefusal). IsAnswerToOne {T = Unit {0}} c.args.self.now (Edit c.args.e.now) c.args.index (Err refusal)) (sym c.numbered.ensures)
    (edit-answer (Unit {0}) (Unit {0}) c.args.self.now c.args.e.now c.args.index c.in-Err.refusal c.in-Err.ensures.answer)
