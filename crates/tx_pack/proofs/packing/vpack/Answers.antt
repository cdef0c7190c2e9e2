use Rattle.std.proofs.Common.{◌≡◌, ◌∙◌, sym, ap, subst, to_z-of_z, Ok, Err, Result, IfOk, IfErr, ◌≢◌}
use Rattle.std.specs.Option.{option_and_then}
use Rattle.tx_node.specs.declared.head.Direction.TheVariants.{Vertical}
use Rattle.tx_pack.specs.declared.types.Packed.{Packed}
use Rattle.tx_pack.specs.declared.types.PackError.{PackError}
use Rattle.tx_pack.specs.declared.types.PackError.TheVariants.{OutOfMemory}
use Rattle.tx_pack.specs.Packing.{packing, with_depth}
use Rattle.tx_pack.specs.Sums.{sums_of}
use Rattle.tx_pack.proofs.packing.vpack.Goals as goal

pub returns-clause-packed : goal.returns-clause-packed
returns-clause-packed c =
    let sums = sym (c.in-Some.ensures.value ∙ ap (λ list. sums_of Vertical list) c.as_slice.ensures) in
    let whole = ap (λ s. option_and_then (with_depth c.args.maxdepth) s) sums ∙ ap (λ m. with_depth m c.in-Some.sums) (sym (to_z-of_z c.ranges.maxdepth)) ∙ sym c.in-Some-with_depth.ensures.value in
    let P : Result Packed PackError → Type 0 = λ r. IfOk c.packed_to.result (λ made. r ≡ Ok made) in
    subst P (sym (ap (λ s. packing Vertical c.args.list c.args.goal c.args.params.now s) whole)) c.packed_to.ensures.packed

pub returns-clause-error : goal.returns-clause-error
returns-clause-error c =
    let sums = sym (c.in-Some.ensures.value ∙ ap (λ list. sums_of Vertical list) c.as_slice.ensures) in
    let whole = ap (λ s. option_and_then (with_depth c.args.maxdepth) s) sums ∙ ap (λ m. with_depth m c.in-Some.sums) (sym (to_z-of_z c.ranges.maxdepth)) ∙ sym c.in-Some-with_depth.ensures.value in
    let P : Result Packed PackError → Type 0 = λ r. IfErr c.packed_to.result (λ e. e ≢ OutOfMemory → r ≡ Err e) in
    subst P (sym (ap (λ s. packing Vertical c.args.list c.args.goal c.args.params.now s) whole)) c.packed_to.ensures.error
