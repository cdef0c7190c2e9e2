use Rattle.std.proofs.Common.{◌≡◌, subst, IfOk, IsOk, ◌↔◌}
use Rattle.tx_num.specs.Glue.{IsGlue}
use Rattle.tx_num.proofs.GlueSums.{sum-back}
use Rattle.tx_num.proofs.glue_spec.Glue.plus.Goals as goal

pub returns-clause-sum : goal.returns-clause-sum
returns-clause-sum c =
    let is_sum = sum-back c.args.self.now c.args.other.now c.width.ensures.value c.width-2.ensures.value c.stretch.ensures.value c.stretch_order.ensures.value c.stretch-2.ensures.value c.stretch_order-2.ensures.value c.shrink.ensures.value c.shrink_order.ensures.value c.shrink-2.ensures.value c.shrink_order-2.ensures.value c.width.ensures.bound c.width-2.ensures.bound c.stretch.ensures.bound c.stretch-2.ensures.bound c.shrink.ensures.bound c.shrink-2.ensures.bound c.joined-stretch.ensures.value c.joined-stretch.ensures.size_in c.joined-shrink.ensures.value c.joined-shrink.ensures.size_in in
    subst (λ s. IfOk c.try_new.result (λ g. g ≡ s)) is_sum c.try_new.ensures.glue

pub returns-clause-overflow : goal.returns-clause-overflow
returns-clause-overflow c =
    let is_sum = sum-back c.args.self.now c.args.other.now c.width.ensures.value c.width-2.ensures.value c.stretch.ensures.value c.stretch_order.ensures.value c.stretch-2.ensures.value c.stretch_order-2.ensures.value c.shrink.ensures.value c.shrink_order.ensures.value c.shrink-2.ensures.value c.shrink_order-2.ensures.value c.width.ensures.bound c.width-2.ensures.bound c.stretch.ensures.bound c.stretch-2.ensures.bound c.shrink.ensures.bound c.shrink-2.ensures.bound c.joined-stretch.ensures.value c.joined-stretch.ensures.size_in c.joined-shrink.ensures.value c.joined-shrink.ensures.size_in in
    subst (λ s. IsOk c.try_new.result ↔ IsGlue s) is_sum c.try_new.ensures.overflow
