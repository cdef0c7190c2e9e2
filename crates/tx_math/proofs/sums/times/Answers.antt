use Rattle.std.proofs.Common.{◌≤◌, ◌*◌, ◌^◌, ℤ, unsigned_abs, sym, subst}
use Rattle.tx_math.proofs.Bounds.{product_back, product_small}
use Rattle.tx_math.proofs.sums.times.Goals as goal

pub returns-clause-value : goal.returns-clause-value
returns-clause-value c = product_back c.args.count c.args.size c.requires.count_in c.requires.size_in

pub returns-clause-size : goal.returns-clause-size
returns-clause-size c =
    subst (λ (z : ℤ). unsigned_abs z ≤ unsigned_abs c.args.count * 2 ^ 31)
    (sym (product_back c.args.count c.args.size c.requires.count_in c.requires.size_in))
    (product_small c.args.count c.args.size c.requires.size_in)
