-- A display stands in the list, and then the paragraph goes on.
use Rattle.std.proofs.Common.{◌≡◌, ◌≢◌, ◌∙◌, ℕ, List, Result, Ok, Err, IfErr, append-nil, ap, refl, subst, sym}
use Rattle.tx_box.specs.declared.parts.Lists.{Lists}
use Rattle.tx_formula.specs.declared.error.FormulaError.{FormulaError}
use Rattle.tx_formula.specs.declared.error.FormulaError.TheVariants.{OutOfMemory}
use Rattle.tx_formula.specs.DisplayLists.{IsShown, appended, on_behind, paragraph_on, shown_by}
use Rattle.tx_formula.specs.Errors.{error_of}
use Rattle.tx_seen.specs.declared.error.TexError.{TexError}
use Rattle.tx_formula.proofs.Refused.{on-err}
use Rattle.tx_formula.proofs.Showing.{refused-by, shown-by}
use Rattle.tx_formula.proofs.display_lists.put.Goals as goal

pub returns-clause-made : goal.returns-clause-made
returns-clause-made c =
    shown-by c.go_on_telling.result (on_behind c.as_slice.result.now (paragraph_on c.append.new.lists)) (shown_by (appended c.args.params.now c.args.number c.args.line c.args.lists.now)) c.args.said.now c.go_on_telling.new.said (Ok c.go_on_telling.new.lists)
    (ap (λ (report : List ℕ). on_behind report (paragraph_on c.append.new.lists)) c.as_slice.ensures ∙ sym (ap shown_by c.in_ok-report.ensures.made))
    c.go_on_telling.ensures.made

pub returns-clause-error : goal.returns-clause-error
returns-clause-error c =
    refused-by c.go_on_telling.result (on_behind c.as_slice.result.now (paragraph_on c.append.new.lists)) (shown_by (appended c.args.params.now c.args.number c.args.line c.args.lists.now)) c.args.said.now c.go_on_telling.new.said
    (ap (λ (report : List ℕ). on_behind report (paragraph_on c.append.new.lists)) c.as_slice.ensures ∙ sym (ap shown_by c.in_ok-report.ensures.made))
    c.go_on_telling.ensures.error

pub returns-in_err-report-clause-error : goal.returns-in_err-report-clause-error
returns-in_err-report-clause-error c =
    on-err c.from_residual.result c.in_err-report.field-0.0 (λ r. IfErr r (λ (e : FormulaError). e ≢ OutOfMemory → IsShown (shown_by (appended c.args.params.now c.args.number c.args.line c.args.lists.now)) c.args.said.now c.args.said.now (Err (error_of e)))) c.from_residual.ensures.1
    (λ not_memory. subst (λ (made : Result (List ℕ × Lists) TexError). IsShown (shown_by made) c.args.said.now c.args.said.now (Err (error_of c.in_err-report.field-0.0))) (sym (c.in_err-report.ensures.error not_memory))
    (record { lists_are = refl; said_is = sym (append-nil c.args.said.now) }))
