use Rattle.std.proofs.Common.{◌≡◌, ◌+ℤ◌, ◌∙◌, FitsSigned, arith, rules, to_z, of_z, w64, to_z-of_z}
use Rattle.std.specs.Int.{int_max}
use Rattle.std.proofs.lemmas.Int.{ints}
use Rattle.tx_pack.proofs.Beside.{beside-character}
use Rattle.tx_pack.proofs.sums.beside_character.Goals as goal

pub returns : goal.returns
returns c =
    let width_is : to_z w64 (of_z w64 c.plus.result) ≡ c.args.sums.now.width +ℤ c.args.character.width
    = omega (arith, ints, c.plus.ensures.value, c.plus.ensures.size, c.from.ensures, c.from.type_inv, c.requires.width) in
    let high : to_z w64 (of_z w64 c.args.sums.now.height) ≡ c.args.sums.now.height = omega (arith, ints, c.requires.height) in
    let deep : to_z w64 (of_z w64 c.args.sums.now.depth) ≡ c.args.sums.now.depth = omega (arith, ints, c.requires.depth) in
    let height_is : to_z w64 (of_z w64 c.from-2.result) ≡ c.args.character.height = omega (arith, ints, c.from-2.ensures, c.from-2.type_inv) in
    let depth_is : to_z w64 (of_z w64 c.from-3.result) ≡ c.args.character.depth = omega (arith, ints, c.from-3.ensures, c.from-3.type_inv) in
    let height_fits : FitsSigned w64 c.greater.result = search rules in
    let depth_fits : FitsSigned w64 c.greater-2.result = search rules in
    beside-character c.args.sums.now c.args.character width_is
    (to_z-of_z height_fits ∙ c.greater.ensures ∙ (λ i. int_max (high i) (height_is i)))
    (to_z-of_z depth_fits ∙ c.greater-2.ensures ∙ (λ i. int_max (deep i) (depth_is i)))
