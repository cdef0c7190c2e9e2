use Rattle.std.proofs.Common.{◌≡◌, [], rules}
use Rattle.tx_galley.proofs.Told.{err_so, outermost}
use Rattle.tx_galley.proofs.exercising.exercise.Goals as goal

pub returns-then-is_outermost-clause-error : goal.returns-then-is_outermost-clause-error
returns-then-is_outermost-clause-error c =
    let none : c.args.nest.now.around ≡ [] = search rules in
    err_so c.exercise_innermost.result _ _ (outermost c.args.nest.now c.args.table.now c.args.pages.now none) c.exercise_innermost.ensures.error
