use Rattle.std.proofs.Common.{◌≡◌, rules, false, true, refl}
use Rattle.tx_assign.proofs.Sums.{sum-over, sum-whole}
use Rattle.tx_assign.proofs.carrying.glue_sum.Goals as goal

pub returns-in-Ok : goal.returns-in-Ok
returns-in-Ok c = sum-whole c.args.glue.now c.args.other.now c.in-Ok.sum (search rules) (c.plus.ensures.overflow.0 (rw c.in-Ok.is refl))

pub returns-in-Err : goal.returns-in-Err
returns-in-Err c = sum-over c.args.glue.now c.args.other.now (λ k. let no : false ≡ true = rw c.in-Err.is at (c.plus.ensures.overflow.1 k) in cc)
