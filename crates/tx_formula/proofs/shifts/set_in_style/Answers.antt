-- A list is set where \overfullrule is a dimension.
use Rattle.std.proofs.Common.{◌≡◌, ◌≢◌, ◌≤◌, ℕ, ℤ, Bool, true, false, List, Result, Ok, Err, IfOk, IfErr, if◌then◌else◌, ap, sym, ◌∙◌, arith, rules, to_z, of_z, w64}
use Rattle.std.specs.Prelude.{◌↔◌, IsTrue, unsigned_abs}
use Rattle.std.proofs.lemmas.Bool.{ltb_from_iff}
use Rattle.tx_eqtb.specs.declared.table.Table.{Table}
use Rattle.tx_math.specs.declared.error.MathError.{MathError}
use Rattle.tx_math.specs.declared.error.MathError.TheVariants as math
use Rattle.tx_math.specs.declared.formula.Formula.{Formula}
use Rattle.tx_math.specs.declared.params.MathParams.{MathParams}
use Rattle.tx_math.specs.Formula.{hlist, math_with}
use Rattle.tx_mlist.specs.Items.{MathItem}
use Rattle.tx_num.specs.declared.limits.Range.TheVariants.{Dimen}
use Rattle.tx_num.specs.Limits.{fits, limit}
use Rattle.tx_tfm.specs.declared.state.FontState.{FontState}
use Rattle.tx_formula.specs.Params.{math_params}
use Rattle.tx_formula.specs.Shifts.{set_in_style}
use Rattle.tx_formula.proofs.shifts.set_in_style.Goals as goal

fits-by : (found : Bool) (size : ℤ) → (IsTrue found ↔ (unsigned_abs size ≤ limit Dimen)) → found ≡ fits size
fits-by found size k = ltb_from_iff (λ is. omega (arith, k.0 is), λ below. k.1 (omega (arith, below)))

-- what is made of it
set-by : (fonts : List FontState) (table : Table) (style : ℕ) (breaks : Bool) (list : List MathItem) (params : MathParams) (found : Bool) → params ≡ math_params table → found ≡ fits params.packing.overfull_rule → set_in_style fonts table style breaks list ≡ (if found then hlist (math_with fonts params) style breaks list else Err math.SizeOutOfRange)
set-by fonts table style breaks list params found params_are found_is =
    (λ i. if fits (sym params_are i).packing.overfull_rule then hlist (math_with fonts (sym params_are i)) style breaks list else Err math.SizeOutOfRange)
    ∙ ap (λ (fit : Bool). if fit then hlist (math_with fonts params) style breaks list else Err math.SizeOutOfRange) (sym found_is)

set-there : (fonts : List FontState) (table : Table) (style : ℕ) (breaks : Bool) (list : List MathItem) (params : MathParams) (found : Bool) → params ≡ math_params table → found ≡ fits params.packing.overfull_rule → found ≡ true → set_in_style fonts table style breaks list ≡ hlist (math_with fonts params) style breaks list
set-there fonts table style breaks list params found params_are found_is there =
    set-by fonts table style breaks list params found params_are found_is
    ∙ ap (λ (fit : Bool). if fit then hlist (math_with fonts params) style breaks list else Err math.SizeOutOfRange) there

set-else : (fonts : List FontState) (table : Table) (style : ℕ) (breaks : Bool) (list : List MathItem) (params : MathParams) (found : Bool) → params ≡ math_params table → found ≡ fits params.packing.overfull_rule → found ≡ false → set_in_style fonts table style breaks list ≡ Err math.SizeOutOfRange
set-else fonts table style breaks list params found params_are found_is not_there =
    set-by fonts table style breaks list params found params_are found_is
    ∙ ap (λ (fit : Bool). if fit then hlist (math_with fonts params) style breaks list else Err math.SizeOutOfRange) not_there

-- so is what the code makes
made-by : (one other : Result Formula MathError) (made : Result Formula MathError) → one ≡ other → IfOk made (λ m. other ≡ Ok m) → IfOk made (λ m. one ≡ Ok m)
made-by one other (Ok m) same is = same ∙ is
made-by one other (Err e) same is = tt

wrong-by : (one other : Result Formula MathError) (made : Result Formula MathError) → one ≡ other → IfErr made (λ e. e ≢ math.OutOfMemory → other ≡ Err e) → IfErr made (λ e. e ≢ math.OutOfMemory → one ≡ Err e)
wrong-by one other (Ok m) same is = tt
wrong-by one other (Err e) same is = λ memory. same ∙ is memory

pub returns-then-holds-clause-made : goal.returns-then-holds-clause-made
returns-then-holds-clause-made c =
    let same : to_z w64 (of_z w64 c.math_params-params.result.packing.overfull_rule) ≡ c.math_params-params.result.packing.overfull_rule = search rules in
    made-by (set_in_style c.args.fonts.now c.args.table.now.table c.args.style c.args.breaks c.args.list.now) (hlist (math_with c.args.fonts.now c.math_params-params.result) c.args.style c.args.breaks c.args.list.now) c.to_hlist.result
    (set-there c.args.fonts.now c.args.table.now.table c.args.style c.args.breaks c.args.list.now c.math_params-params.result c.holds.result c.math_params-params.ensures
    (fits-by c.holds.result c.math_params-params.result.packing.overfull_rule (rw same at c.holds.ensures)) c.if-holds.true)
    c.to_hlist.ensures.formula

pub returns-then-holds-clause-error : goal.returns-then-holds-clause-error
returns-then-holds-clause-error c =
    let same : to_z w64 (of_z w64 c.math_params-params.result.packing.overfull_rule) ≡ c.math_params-params.result.packing.overfull_rule = search rules in
    wrong-by (set_in_style c.args.fonts.now c.args.table.now.table c.args.style c.args.breaks c.args.list.now) (hlist (math_with c.args.fonts.now c.math_params-params.result) c.args.style c.args.breaks c.args.list.now) c.to_hlist.result
    (set-there c.args.fonts.now c.args.table.now.table c.args.style c.args.breaks c.args.list.now c.math_params-params.result c.holds.result c.math_params-params.ensures
    (fits-by c.holds.result c.math_params-params.result.packing.overfull_rule (rw same at c.holds.ensures)) c.if-holds.true)
    c.to_hlist.ensures.error

pub returns-else-holds-clause-error : goal.returns-else-holds-clause-error
returns-else-holds-clause-error c =
    let same : to_z w64 (of_z w64 c.math_params-params.result.packing.overfull_rule) ≡ c.math_params-params.result.packing.overfull_rule = search rules in
    λ memory. set-else c.args.fonts.now c.args.table.now.table c.args.style c.args.breaks c.args.list.now c.math_params-params.result c.holds.result c.math_params-params.ensures
    (fits-by c.holds.result c.math_params-params.result.packing.overfull_rule (rw same at c.holds.ensures)) c.if-holds.false
