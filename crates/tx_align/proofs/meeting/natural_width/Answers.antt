use Rattle.std.proofs.Common.{◌≡◌, ◌<◌, ℕ, ℤ, pos, ◌+ℤ◌, ◌+◌, List, length, drop, get_or, Option, Some, None, sym, ap, ◌∙◌, add-one, arith, to_z, of_z, w32, w64}
use Rattle.std.proofs.lemmas.Int.{ints}
use Rattle.std.proofs.Math.Seq.{drop-cons}
use Rattle.tx_node.specs.declared.head.Direction.TheVariants.{Horizontal}
use Rattle.tx_node.specs.declared.node.Node.{Node}
use Rattle.tx_node.specs.Nodes.{item_of, list_of}
use Rattle.tx_node.specs.Sizes.{advance}
use Rattle.tx_pack.specs.Packing.{if_fits}
use Rattle.tx_align.specs.Entries.{wider, width_from}
use Rattle.tx_align.proofs.meeting.natural_width.Goals as goal

-- how wide a list is from a node on, once the sum with this is known
width-on : (xs : List Node) (i : ℕ) (x : Node) (width : ℤ) {all fitted : Option ℤ} → i < length xs → x ≡ get_or xs i x → width_from width (list_of (drop i xs)) ≡ all
    → fitted ≡ if_fits (width +ℤ advance Horizontal (item_of x)) → wider (λ more. width_from more (list_of (drop (i + 1) xs))) fitted ≡ all
width-on xs i x width here is so_far fits_is =
    ap (wider (λ more. width_from more (list_of (drop (i + 1) xs)))) fits_is
    ∙ (λ j. wider (λ more. width_from more (list_of (drop (add-one i j) xs))) (if_fits (width +ℤ advance Horizontal (item_of (is j)))))
    ∙ ap (λ ys. width_from width (list_of ys)) (sym (drop-cons xs i x here)) ∙ so_far

pub loop-node-preserved : goal.loop-node-preserved
loop-node-preserved c =
    let width : ℤ = to_z w32 c.loop-node.width-bits in
    let sum_is : to_z w64 (of_z w64 c.plus.result) ≡ width +ℤ advance Horizontal (item_of c.node-item.result) = omega (arith, ints, c.plus.ensures.value, c.plus.type_inv, c.wide.ensures.value, c.advance.ensures.value) in
    let so_far : width_from width (list_of (drop c.loop-node.node-index c.args.list.now)) ≡ width_from (pos 0) (list_of c.args.list.now) = c.loop-node.invariant in
    let more_is : to_z w32 (of_z w32 c.in-Some.more) ≡ c.in-Some.more = omega (arith, ints, c.in-Some.ensures.small) in
    ap (λ more. width_from more (list_of (drop (c.loop-node.node-index + 1) c.args.list.now))) more_is
    ∙ width-on c.args.list.now c.loop-node.node-index c.node-item.result width c.loop-node-test.true c.node-item.is so_far (c.in-Some.ensures.value ∙ ap if_fits sum_is)

pub returns-in-None : goal.returns-in-None
returns-in-None c =
    let width : ℤ = to_z w32 c.loop-node.width-bits in
    let sum_is : to_z w64 (of_z w64 c.plus.result) ≡ width +ℤ advance Horizontal (item_of c.node-item.result) = omega (arith, ints, c.plus.ensures.value, c.plus.type_inv, c.wide.ensures.value, c.advance.ensures.value) in
    let so_far : width_from width (list_of (drop c.loop-node.node-index c.args.list.now)) ≡ width_from (pos 0) (list_of c.args.list.now) = c.loop-node.invariant in
    width-on c.args.list.now c.loop-node.node-index c.node-item.result width c.loop-node-test.true c.node-item.is so_far (c.in-None.ensures.value ∙ ap if_fits sum_is)
