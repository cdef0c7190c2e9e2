use Rattle.std.proofs.Common.{◌≡◌, ◌≤◌, ◌*◌, ◌^◌, ℤ, unsigned_abs, FitsSigned, to_z, of_z, to_z-of_z, rules, sym, subst}
use Rattle.std.specs.Int.{w128}
use Rattle.tx_word.proofs.Leanings.{product-small}
use Rattle.tx_word.proofs.accent.leant.Goals as goal

pub returns-clause-bound : goal.returns-clause-bound
returns-clause-bound c =
    let fits : FitsSigned w128 c.product.result = search rules in
    subst (λ (z : ℤ). unsigned_abs z ≤ unsigned_abs c.args.height * 2 ^ 63) (sym (to_z-of_z fits))
    (product-small c.args.height c.args.slant _ _ _ (to_z-of_z c.ranges.height) (to_z-of_z c.ranges.slant) c.ranges.slant c.product.ensures.size)
