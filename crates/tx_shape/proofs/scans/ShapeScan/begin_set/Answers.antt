use Rattle.std.proofs.Common.{refl}
use Rattle.tx_shape.specs.declared.scans.Stage.TheVariants as stage
use Rattle.tx_shape.proofs.Steps.{setting-begun-ok}
use Rattle.tx_shape.proofs.scans.ShapeScan.begin_set.Goals as goal

pub returns : goal.returns
returns c =
    setting-begun-ok c.args.setting (record { stage = stage.Amount; amount = c.begin.new.self; glue = c.args.self.now.glue }) c.feed_amount.new.self c.args.self.now.glue c.args.token.now c.feed_amount.result (rw (c.begin.ensures, c.amount_of.ensures) refl) c.feed_amount.ensures.fed c.feed_amount.ensures.needs c.feed_amount.ensures.waits
