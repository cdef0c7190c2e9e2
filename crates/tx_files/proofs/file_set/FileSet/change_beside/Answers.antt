use Rattle.std.proofs.Common.{Ok, Err, ap, subst, ◌∙◌}
use Rattle.tx_bytes.specs.Files.{Files}
use Rattle.tx_files.specs.Changes.{all_changed, AreSmall, IsAnswerToAll}
use Rattle.tx_files.specs.declared.before.Before.{Before}
use Rattle.tx_files.proofs.file_set.FileSet.change_beside.Goals as goal

pub returns-in-Ok-clause-answer : goal.returns-in-Ok-clause-answer
returns-in-Ok-clause-answer c = subst (λ (files : Files). IsAnswerToAll {T = Unit {0}} files c.args.changes.now (Ok tt)) c.in_ok-next.ensures c.in-Ok.ensures.answer

pub returns-in-Ok-clause-ok : goal.returns-in-Ok-clause-ok
returns-in-Ok-clause-ok c = c.replace.ensures.after ∙ c.in-Ok.ensures.ok ∙ ap (λ (files : Files). all_changed files c.args.changes.now) c.in_ok-next.ensures

pub returns-in-Ok-clause-small : goal.returns-in-Ok-clause-small
returns-in-Ok-clause-small c = subst (λ (files : Files). AreSmall files c.args.changes.now) c.in_ok-next.ensures c.in-Ok.ensures.small

pub returns-in-Err-clause-answer : goal.returns-in-Err-clause-answer
returns-in-Err-clause-answer c = subst (λ (files : Files). IsAnswerToAll {T = Before} files c.args.changes.now (Err c.in-Err.refusal)) c.in_ok-next.ensures c.in-Err.ensures.answer
