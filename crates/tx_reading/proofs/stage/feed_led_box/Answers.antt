use Rattle.std.proofs.Common.{refl, ◌∷◌}
use Rattle.tx_seen.specs.declared.item.Item.TheVariants.{Took}
use Rattle.tx_shape.specs.Boxes.{needed_box}
use Rattle.tx_shape.specs.declared.types.BoxContext.TheVariants.{Lead}
use Rattle.tx_reading.proofs.Stages.{shape-begun-by}
use Rattle.tx_reading.proofs.stage.feed_led_box.Goals as goal

pub returns : goal.returns
returns c = rw c.shaped.ensures (shape-begun-by (λ more. needed_box (Lead c.args.kind) (Took c.args.token.now ∷ more)) _ c.feed_needed.result refl c.feed_needed.ensures)
