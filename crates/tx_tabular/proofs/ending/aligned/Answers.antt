use Rattle.std.proofs.Common.{rules, ◌≡◌, ◌≢◌, ◌∙◌, Bool, true, false, if◌then◌else◌, Result, Ok, Err, IfOk, IfErr, sym, ap, subst}
use Rattle.tx_num.specs.Limits.{fits}
use Rattle.tx_pack.specs.declared.types.Goal.{Goal}
use Rattle.tx_pack.specs.declared.types.PackParams.{PackParams}
use Rattle.tx_box.specs.Building.{goal_of, size_in}
use Rattle.tx_align.specs.declared.aligned.Aligned.{Aligned}
use Rattle.tx_align.specs.declared.error.AlignError.{AlignError}
use Rattle.tx_align.specs.declared.error.AlignError.TheVariants.{OutOfMemory, SizeOutOfRange}
use Rattle.tx_tabular.specs.declared.alignment.Alignment.{Alignment}
use Rattle.tx_tabular.specs.Ending.{aligned, set_rows}
use Rattle.tx_tabular.proofs.ending.aligned.Goals as goal

-- by whether the size fits
abbrev by_fit : Alignment → Goal → PackParams → Bool → Result Aligned AlignError
by_fit a goal params fit = if fit then set_rows a goal params else Err SizeOutOfRange

is-aligned : (a : Alignment) (goal : Goal) (params : PackParams) (fit : Bool) → goal ≡ goal_of a.goal → fits (size_in goal) ≡ fit → by_fit a goal params fit ≡ aligned a params
is-aligned a goal params fit same is = ap (by_fit a goal params) (sym is) ∙ ap (λ (g : Goal). by_fit a g params (fits (size_in g))) same

pub returns-then-holds-clause-set : goal.returns-then-holds-clause-set
returns-then-holds-clause-set c =
    let fit : fits (size_in c.goal_of-goal.result) ≡ true = search rules in
    subst (λ (r : Result Aligned AlignError). IfOk c.set_rows.result (λ made. r ≡ Ok made)) (is-aligned c.args.alignment c.goal_of-goal.result c.args.params.now true c.goal_of-goal.ensures fit) c.set_rows.ensures.set

pub returns-then-holds-clause-error : goal.returns-then-holds-clause-error
returns-then-holds-clause-error c =
    let fit : fits (size_in c.goal_of-goal.result) ≡ true = search rules in
    subst (λ (r : Result Aligned AlignError). IfErr c.set_rows.result (λ e. e ≢ OutOfMemory → r ≡ Err e)) (is-aligned c.args.alignment c.goal_of-goal.result c.args.params.now true c.goal_of-goal.ensures fit) c.set_rows.ensures.error

pub returns-else-holds-clause-error : goal.returns-else-holds-clause-error
returns-else-holds-clause-error c =
    let fit : fits (size_in c.goal_of-goal.result) ≡ false = search rules in
    λ kept. sym (is-aligned c.args.alignment c.goal_of-goal.result c.args.params.now false c.goal_of-goal.ensures fit)
