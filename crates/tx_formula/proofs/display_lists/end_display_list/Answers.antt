-- A list that ends is set in display style.
use Rattle.std.proofs.Common.{◌≡◌, ◌≢◌, false, List, Result, Ok, Err, IfErr, ap, ◌∙◌}
use Rattle.tx_box.specs.declared.parts.Lists.{Lists}
use Rattle.tx_eqtb.specs.declared.table.Table.{Table}
use Rattle.tx_math.specs.declared.error.MathError.{MathError}
use Rattle.tx_math.specs.declared.formula.Formula.{Formula}
use Rattle.tx_mlist.specs.Items.{MathItem}
use Rattle.tx_tfm.specs.declared.state.FontState.{FontState}
use Rattle.tx_formula.specs.declared.error.FormulaError.TheVariants.{OutOfMemory}
use Rattle.tx_formula.specs.DisplayLists.{display_by, ended_display}
use Rattle.tx_formula.specs.Errors.{error_of, of_math}
use Rattle.tx_formula.specs.Lists.{ended_list}
use Rattle.tx_formula.specs.Shifts.{set_beside, set_in_style}
use Rattle.tx_formula.proofs.Refused.{on-err}
use Rattle.tx_formula.proofs.display_lists.end_display_list.Goals as goal

-- what comes of the list is what is made of it
ends-by : (fonts : List FontState) (table : Table) (lists left : Lists) (list : List MathItem) (made : Result Formula MathError) → ended_list lists ≡ Ok (list, left) → set_in_style fonts table 0 false list ≡ made → ended_display fonts table lists ≡ set_beside left made
ends-by fonts table lists left list made ended is =
    ap (display_by fonts table) ended ∙ ap (set_beside left) is

pub returns-in_err-made-clause-error : goal.returns-in_err-made-clause-error
returns-in_err-made-clause-error c =
    on-err c.from_residual-in_err-made.result (of_math c.in_err-made.field-0.0) (λ r. IfErr r (λ e. e ≢ OutOfMemory → ended_display c.args.fonts.now c.args.table.now.table c.args.lists.now ≡ Err (error_of e))) c.from_residual-in_err-made.ensures.1
    (λ not_memory. ends-by c.args.fonts.now c.args.table.now.table c.args.lists.now c.end_list.new.lists c.in_ok-list.list (Err c.in_err-made.field-0.0) c.in_ok-list.ensures.made
    (c.in_err-made.ensures.error (λ memory. not_memory (ap of_math memory))))

pub returns-clause-made : goal.returns-clause-made
returns-clause-made c =
    ends-by c.args.fonts.now c.args.table.now.table c.args.lists.now c.end_list.new.lists c.in_ok-list.list (Ok c.in_ok-made.made) c.in_ok-list.ensures.made c.in_ok-made.ensures.made
