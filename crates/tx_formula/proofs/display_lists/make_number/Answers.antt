-- The list of a number's formula is packed.
use Rattle.std.proofs.Common.{◌≡◌, ◌≢◌, ◌∙◌, Err, IfErr, ap, sym}
use Rattle.tx_display.specs.Displays.{number_of}
use Rattle.tx_formula.specs.declared.error.FormulaError.{FormulaError}
use Rattle.tx_formula.specs.declared.error.FormulaError.TheVariants.{OutOfMemory}
use Rattle.tx_formula.specs.DisplayLists.{number_made, number_told}
use Rattle.tx_formula.specs.Errors.{error_of, of_display}
use Rattle.tx_formula.proofs.Refused.{on-err}
use Rattle.tx_formula.proofs.display_lists.make_number.Goals as goal

pub returns-clause-made : goal.returns-clause-made
returns-clause-made c =
    (λ i. number_told c.args.formula.report (number_of c.args.side (sym c.across.ensures i) c.args.formula.nodes)) ∙ ap (number_told c.args.formula.report) c.in_ok-number.ensures.number

pub returns-in_err-number-clause-error : goal.returns-in_err-number-clause-error
returns-in_err-number-clause-error c =
    on-err c.from_residual.result (of_display c.in_err-number.field-0.0) (λ r. IfErr r (λ (e : FormulaError). e ≢ OutOfMemory → number_made c.args.table.now.table c.args.side c.args.formula ≡ Err (error_of e))) c.from_residual.ensures.1
    (λ not_memory. (λ i. number_told c.args.formula.report (number_of c.args.side (sym c.across.ensures i) c.args.formula.nodes)) ∙ ap (number_told c.args.formula.report) (c.in_err-number.ensures.error (λ memory. not_memory (ap of_display memory))))
