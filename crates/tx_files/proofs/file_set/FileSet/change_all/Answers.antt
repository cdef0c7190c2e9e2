use Rattle.std.proofs.Common.{◌≡◌, List, sym, subst}
use Rattle.std.specs.Prelude.{OnOk}
use Rattle.tx_files.specs.Changes.{all_changed, AreSmall, IsAnswerToAll}
use Rattle.tx_files.specs.declared.edit.Change.{Change}
use Rattle.tx_files.proofs.Changing.{on-both, alone-small}
use Rattle.tx_files.proofs.file_set.FileSet.change_all.Goals as goal

pub returns-in-Some-clause-answer : goal.returns-in-Some-clause-answer
returns-in-Some-clause-answer c = subst (λ (changes : List Change). IsAnswerToAll c.args.self.now changes c.change_one.result) (sym c.in-Some.ensures) c.change_one.ensures.answer

pub returns-in-Some-clause-ok : goal.returns-in-Some-clause-ok
returns-in-Some-clause-ok c =
    subst (λ (changes : List Change). OnOk c.change_one.result (c.change_one.new.self ≡ all_changed c.args.self.now changes)) (sym c.in-Some.ensures) c.change_one.ensures.ok

pub returns-in-Some-clause-small : goal.returns-in-Some-clause-small
returns-in-Some-clause-small c =
    subst (λ (changes : List Change). OnOk c.change_one.result (AreSmall c.args.self.now changes)) (sym c.in-Some.ensures)
    (on-both c.change_one.result (alone-small c.args.self.now c.change_one.new.self c.in-Some.e.now) c.change_one.ensures.ok c.change_one.ensures.small)
