-- A formula that ends in text style is in the box of the number.
use Rattle.std.proofs.Common.{◌≡◌, ◌≢◌, ◌∙◌, Err, IfErr, ap}
use Rattle.tx_formula.specs.declared.error.FormulaError.{FormulaError}
use Rattle.tx_formula.specs.declared.error.FormulaError.TheVariants.{OutOfMemory}
use Rattle.tx_formula.specs.DisplayLists.{ended_number, number_by}
use Rattle.tx_formula.specs.Errors.{error_of}
use Rattle.tx_formula.specs.Lists.{beside}
use Rattle.tx_formula.proofs.Refused.{on-err}
use Rattle.tx_formula.proofs.display_lists.end_number_list.Goals as goal

pub returns-clause-made : goal.returns-clause-made
returns-clause-made c =
    ap (number_by c.args.table.now.table c.args.side) c.in_ok-formula.ensures.made ∙ ap (beside c.end_text_list.new.lists) c.in_ok-made.ensures.made

pub returns-in_err-made-clause-error : goal.returns-in_err-made-clause-error
returns-in_err-made-clause-error c =
    on-err c.from_residual-in_err-made.result c.in_err-made.field-0.0 (λ r. IfErr r (λ (e : FormulaError). e ≢ OutOfMemory → ended_number c.args.fonts.now c.args.table.now.table c.args.side c.args.lists.now ≡ Err (error_of e))) c.from_residual-in_err-made.ensures.1
    (λ not_memory. ap (number_by c.args.table.now.table c.args.side) c.in_ok-formula.ensures.made ∙ ap (beside c.end_text_list.new.lists) (c.in_err-made.ensures.error not_memory))
