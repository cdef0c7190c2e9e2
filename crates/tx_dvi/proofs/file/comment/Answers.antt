use Rattle.std.proofs.Common.{◌≡◌, rules, arith, w32, FitsSigned}
use Rattle.std.proofs.lemmas.Grind.{common_steps}
use Rattle.tx_dvi.specs.Dvi as spec
use Rattle.tx_dvi.proofs.Comment.{length-comment}
use Rattle.tx_dvi.proofs.file.comment.Goals as goal

pub returns-clause-bound : goal.returns-clause-bound
returns-clause-bound c =
    let is : c.append-2.new.self ≡ spec.comment c.args.date = grind (arith, common_steps) in
    let fits : FitsSigned w32 c.args.date.year = search rules in
    rw is (length-comment c.args.date fits)
