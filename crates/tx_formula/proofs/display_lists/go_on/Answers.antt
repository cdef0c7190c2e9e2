-- A paragraph goes on by what its list counts.
use Rattle.std.proofs.Common.{◌≡◌, ◌≢◌, ℕ, Option, Result, Ok, Err, IfErr, OnOk, ap, subst, ◌∙◌}
use Rattle.tx_box.specs.declared.parts.Lists.{Lists}
use Rattle.tx_nest.specs.declared.list.ModeList.{ModeList}
use Rattle.tx_nest.specs.Grafs.{raised_graf}
use Rattle.tx_formula.specs.declared.error.FormulaError.{FormulaError}
use Rattle.tx_formula.specs.declared.error.FormulaError.TheVariants.{OutOfMemory}
use Rattle.tx_formula.specs.DisplayLists.{gone_on}
use Rattle.tx_formula.specs.Errors.{error_of}
use Rattle.tx_formula.proofs.display_lists.go_on.Goals as goal

made-so : {T E : Type 0} (r : Result T E) (lists new : Lists) (graf counted : Option ℕ) → graf ≡ counted → OnOk r (gone_on lists graf ≡ Ok new) → OnOk r (gone_on lists counted ≡ Ok new)
made-so r lists new graf counted same said = subst (λ (g : Option ℕ). OnOk r (gone_on lists g ≡ Ok new)) same said

error-so : {T : Type 0} (r : Result T FormulaError) (lists : Lists) (graf counted : Option ℕ) → graf ≡ counted → IfErr r (λ (e : FormulaError). e ≢ OutOfMemory → gone_on lists graf ≡ Err (error_of e)) → IfErr r (λ (e : FormulaError). e ≢ OutOfMemory → gone_on lists counted ≡ Err (error_of e))
error-so r lists graf counted same said = subst (λ (g : Option ℕ). IfErr r (λ (e : FormulaError). e ≢ OutOfMemory → gone_on lists g ≡ Err (error_of e))) same said

pub returns-clause-made : goal.returns-clause-made
returns-clause-made c =
    made-so c.begin_if.result c.args.lists.now _ _ _ (c.raised_graf-graf.ensures ∙ ap (λ (l : ModeList). raised_graf l.prev_graf 3) c.innermost.ensures) c.begin_if.ensures.made

pub returns-clause-error : goal.returns-clause-error
returns-clause-error c =
    error-so c.begin_if.result c.args.lists.now _ _ (c.raised_graf-graf.ensures ∙ ap (λ (l : ModeList). raised_graf l.prev_graf 3) c.innermost.ensures) c.begin_if.ensures.error
