use Rattle.std.proofs.Common.{◌≡◌, ◌+◌, ◌^◌, ◌∙◌, pos, min, refl, sym, ap, subst, arith}
use Rattle.tx_linebreak.specs.declared.totals.Totals.{Totals}
use Rattle.tx_linebreak.specs.Lines.{first_place, fit_of}
use Rattle.tx_linebreak.specs.Tasks.{attempt_of}
use Rattle.tx_linebreak.specs.Totals.{IsWithin, less, rigid}
use Rattle.tx_linebreak.proofs.Summing.{back, fits_by, within_less, within_more}
use Rattle.tx_linebreak.proofs.attempt.Task.line_fit.Goals as goal

pub fit-requires-clause-totals : goal.fit-requires-clause-totals
fit-requires-clause-totals c =
    let until = c.args.until.now in
    let none : Totals = rigid (pos 0) in
    subst (IsWithin (2 ^ 120)) (sym c.minus.ensures)
    (within_more (less until _) (2 ^ 97 + 2 ^ 94) (2 ^ 120) (omega arith) (within_less until _ (2 ^ 97) (2 ^ 94) c.requires.small (c.requires.task.sums_are.small c.min-first.result none (omega arith))))

pub returns : goal.returns
returns c =
    let a = attempt_of c.args.self.now in
    let trial = c.args.trial.now in
    let sums = c.requires.task.sums_are in
    let none : Totals = rigid (pos 0) in
    let first : c.min-first.result ≡ min (first_place a.pieces trial.from.place) c.args.place = c.min-first.ensures ∙ ap (λ n. min n c.args.place) c.requires.start.first_is in
    c.fit.ensures
    ∙ (λ i. fit_of (back trial.start.goal trial.start.goal (omega arith) refl i) (c.minus.ensures i))
    ∙ (λ i. fit_of trial.start.goal (less (c.requires.until i) (sums.sums_are c.min-first.result none (omega arith) i)))
    ∙ fits_by a trial.from c.args.place c.min-first.result trial.start.goal first c.requires.start.goal_is
