use Rattle.std.proofs.Common.{refl, ◌∷◌}
use Rattle.tx_seen.specs.declared.item.Item.TheVariants.{Took}
use Rattle.tx_shape.specs.Shapes.{aligning}
use Rattle.tx_reading.proofs.Stages.{shape-begun-by}
use Rattle.tx_reading.proofs.stage.feed_align.Goals as goal

pub returns : goal.returns
returns c = rw c.shaped.ensures (shape-begun-by (λ more. aligning (Took c.args.token.now ∷ more)) _ c.feed_align.result refl c.feed_align.ensures)
