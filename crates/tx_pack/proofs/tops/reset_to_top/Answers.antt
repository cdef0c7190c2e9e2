use Rattle.std.proofs.Common.{◌≡◌, ◌∙◌, ◌+ℤ◌, ◌-ℤ◌, FitsSigned, w32, w64, to_z-of_z, rules, ap, subst, Ok, Err, Result, OnOk, IfErr}
use Rattle.tx_node.specs.Items.{PackedBox}
use Rattle.tx_pack.specs.declared.types.PackError.{PackError}
use Rattle.tx_pack.specs.Packing.{if_fits}
use Rattle.tx_pack.specs.Tops.{reset_to, top_of}
use Rattle.tx_pack.proofs.tops.reset_to_top.Goals as goal

pub returns-clause-reset : goal.returns-clause-reset
returns-clause-reset c =
    let b : PackedBox = c.args.packed.now in
    let fits : FitsSigned w32 c.top_of-top.result = search rules in
    let fits_below : FitsSigned w64 c.below_top-below.result = search rules in
    let top = to_z-of_z fits ∙ c.top_of-top.ensures ∙ ap (λ list. top_of list) c.list.ensures in
    let below = c.if_fits.ensures.value ∙ ap (λ size. if_fits size) (to_z-of_z fits_below ∙ c.below_top-below.ensures ∙ ap (λ t. b.head.height +ℤ b.head.depth -ℤ t) top) in
    let whole = ap (λ t. reset_to b t c.if_fits.result) top ∙ ap (λ d. reset_to b (top_of b.list) d) below in
    let P : Result PackedBox PackError → Type 0 = λ r. OnOk c.reset.result (r ≡ Ok c.reset.new.packed) in
    subst P whole c.reset.ensures.reset

pub returns-clause-error : goal.returns-clause-error
returns-clause-error c =
    let b : PackedBox = c.args.packed.now in
    let fits : FitsSigned w32 c.top_of-top.result = search rules in
    let fits_below : FitsSigned w64 c.below_top-below.result = search rules in
    let top = to_z-of_z fits ∙ c.top_of-top.ensures ∙ ap (λ list. top_of list) c.list.ensures in
    let below = c.if_fits.ensures.value ∙ ap (λ size. if_fits size) (to_z-of_z fits_below ∙ c.below_top-below.ensures ∙ ap (λ t. b.head.height +ℤ b.head.depth -ℤ t) top) in
    let whole = ap (λ t. reset_to b t c.if_fits.result) top ∙ ap (λ d. reset_to b (top_of b.list) d) below in
    let P : Result PackedBox PackError → Type 0 = λ r. IfErr c.reset.result (λ e. r ≡ Err e) in
    subst P whole c.reset.ensures.error
