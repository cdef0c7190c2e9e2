use Rattle.std.proofs.Common.{◌∙◌, ap, sym}
use Rattle.std.specs.FinMap.{insert}
use Rattle.tx_bytes.specs.Files.{content}
use Rattle.tx_files.proofs.Restored.{is_some-insert, removed-insert, insert-insert}
use Rattle.tx_files.proofs.file_set.FileSet.change_anew.Goals as goal

pub returns-in-None-clause-can : goal.returns-in-None-clause-can
returns-in-None-clause-can c = is_some-insert c.args.self.now c.insert.new.self c.args.e.now.name c.in_ok-all.all (c.in_ok-insert.ensures.ok ∙ ap (λ n. insert c.args.self.now n c.in_ok-all.all) c.in_ok-clone.ensures.cases)

pub returns-in-None-clause-back : goal.returns-in-None-clause-back
returns-in-None-clause-back c = removed-insert c.args.self.now c.insert.new.self c.args.e.now.name c.in_ok-all.all
    (c.in_ok-insert.ensures.ok ∙ ap (λ n. insert c.args.self.now n c.in_ok-all.all) c.in_ok-clone.ensures.cases)
    (sym c.in-None.is ∙ c.in_ok-insert.ensures.before ∙ ap (content c.args.self.now) c.in_ok-clone.ensures.cases)

pub returns-in-Some-clause-can : goal.returns-in-Some-clause-can
returns-in-Some-clause-can c = is_some-insert c.args.self.now c.insert.new.self c.args.e.now.name c.in_ok-all.all (c.in_ok-insert.ensures.ok ∙ ap (λ n. insert c.args.self.now n c.in_ok-all.all) c.in_ok-clone.ensures.cases)

pub returns-in-Some-clause-back : goal.returns-in-Some-clause-back
returns-in-Some-clause-back c = insert-insert c.args.self.now c.insert.new.self c.args.e.now.name c.in_ok-all.all
    (c.in_ok-insert.ensures.ok ∙ ap (λ n. insert c.args.self.now n c.in_ok-all.all) c.in_ok-clone.ensures.cases)
    (sym c.in-Some.is ∙ c.in_ok-insert.ensures.before ∙ ap (content c.args.self.now) c.in_ok-clone.ensures.cases)
