-- What is told of a display stands behind what is told of its formula.
use Rattle.std.proofs.Common.{◌≡◌, ◌≢◌, ◌++◌, ◌∙◌, ℕ, List, Result, Ok, Err, IfErr, append-nil, ap, refl, subst, sym}
use Rattle.tx_box.specs.declared.parts.Lists.{Lists}
use Rattle.tx_formula.specs.declared.error.FormulaError.{FormulaError}
use Rattle.tx_formula.specs.declared.error.FormulaError.TheVariants.{OutOfMemory}
use Rattle.tx_formula.specs.DisplayLists.{IsShown, finished, finished_by, shown}
use Rattle.tx_formula.specs.Errors.{error_of}
use Rattle.tx_math.specs.declared.formula.Formula.{Formula}
use Rattle.tx_seen.specs.declared.error.TexError.{TexError}
use Rattle.tx_formula.proofs.Refused.{on-err}
use Rattle.tx_formula.proofs.Showing.{refused-behind, shown-behind}
use Rattle.tx_formula.proofs.display_lists.finish.Goals as goal

pub returns-clause-made : goal.returns-clause-made
returns-clause-made c =
    shown-behind c.show.result (shown c.args.fonts.now c.args.table.now.table c.args.number c.in_ok-made.made.nodes c.end_display_list.new.lists) (finished c.args.fonts.now c.args.table.now.table c.args.number c.args.lists.now) c.in_ok-made.made.report c.args.said.now c.append.new.self c.show.new.said (Ok c.show.new.lists)
    (sym (ap (finished_by c.args.fonts.now c.args.table.now.table c.args.number) c.in_ok-made.ensures.made))
    (c.in_ok-append.ensures.ok ∙ ap (λ (report : List ℕ). c.args.said.now ++ report) c.as_slice.ensures)
    c.show.ensures.made

pub returns-clause-error : goal.returns-clause-error
returns-clause-error c =
    refused-behind c.show.result (shown c.args.fonts.now c.args.table.now.table c.args.number c.in_ok-made.made.nodes c.end_display_list.new.lists) (finished c.args.fonts.now c.args.table.now.table c.args.number c.args.lists.now) c.in_ok-made.made.report c.args.said.now c.append.new.self c.show.new.said
    (sym (ap (finished_by c.args.fonts.now c.args.table.now.table c.args.number) c.in_ok-made.ensures.made))
    (c.in_ok-append.ensures.ok ∙ ap (λ (report : List ℕ). c.args.said.now ++ report) c.as_slice.ensures)
    c.show.ensures.error

pub returns-in_err-made-clause-error : goal.returns-in_err-made-clause-error
returns-in_err-made-clause-error c =
    on-err c.from_residual.result c.in_err-made.field-0.0 (λ r. IfErr r (λ (e : FormulaError). e ≢ OutOfMemory → IsShown (finished c.args.fonts.now c.args.table.now.table c.args.number c.args.lists.now) c.args.said.now c.args.said.now (Err (error_of e)))) c.from_residual.ensures.1
    (λ not_memory. subst (λ (made : Result (Formula × Lists) TexError). IsShown (finished_by c.args.fonts.now c.args.table.now.table c.args.number made) c.args.said.now c.args.said.now (Err (error_of c.in_err-made.field-0.0))) (sym (c.in_err-made.ensures.error not_memory))
    (record { lists_are = refl; said_is = sym (append-nil c.args.said.now) }))
