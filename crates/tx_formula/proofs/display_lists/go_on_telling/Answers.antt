-- The paragraph goes on, and then the transcript gets what is told.
use Rattle.std.proofs.Common.{◌≡◌, ◌≢◌, Result, Ok, Err, IfErr, append-nil, refl, subst, sym}
use Rattle.tx_box.specs.declared.parts.Lists.{Lists}
use Rattle.tx_formula.specs.declared.error.FormulaError.{FormulaError}
use Rattle.tx_formula.specs.declared.error.FormulaError.TheVariants.{OutOfMemory}
use Rattle.tx_formula.specs.DisplayLists.{IsShown, on_behind, paragraph_on}
use Rattle.tx_formula.specs.Errors.{error_of}
use Rattle.tx_seen.specs.declared.error.TexError.{TexError}
use Rattle.tx_formula.proofs.Refused.{on-err}
use Rattle.tx_formula.proofs.display_lists.go_on_telling.Goals as goal

pub returns-clause-made : goal.returns-clause-made
returns-clause-made c =
    subst (λ (left : Result Lists TexError). IsShown (on_behind c.args.report.now left) c.args.said.now c.append.new.self (Ok c.go_on.new.lists)) (sym c.in_ok-go_on.ensures.made)
    (record { lists_are = refl; said_is = c.in_ok-append.ensures.ok })

pub returns-in_err-go_on-clause-error : goal.returns-in_err-go_on-clause-error
returns-in_err-go_on-clause-error c =
    on-err c.from_residual.result c.in_err-go_on.field-0.0 (λ r. IfErr r (λ (e : FormulaError). e ≢ OutOfMemory → IsShown (on_behind c.args.report.now (paragraph_on c.args.lists.now)) c.args.said.now c.args.said.now (Err (error_of e)))) c.from_residual.ensures.1
    (λ not_memory. subst (λ (left : Result Lists TexError). IsShown (on_behind c.args.report.now left) c.args.said.now c.args.said.now (Err (error_of c.in_err-go_on.field-0.0))) (sym (c.in_err-go_on.ensures.error not_memory))
    (record { lists_are = refl; said_is = sym (append-nil c.args.said.now) }))
