use Rattle.std.proofs.Common.{◌∙◌}
use Rattle.tx_num.proofs.GlueSums.{negated-back}
use Rattle.tx_num.proofs.glue_spec.Glue.negated.Goals as goal

pub returns : goal.returns
returns c = c.new.ensures ∙ negated-back c.args.self.now c.width.ensures.value c.stretch.ensures.value c.stretch_order.ensures.value c.shrink.ensures.value c.shrink_order.ensures.value c.width.ensures.bound c.stretch.ensures.bound c.shrink.ensures.bound
