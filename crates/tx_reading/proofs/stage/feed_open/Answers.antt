use Rattle.std.proofs.Common.{refl, ◌∷◌}
use Rattle.tx_seen.specs.declared.item.Item.TheVariants.{Took}
use Rattle.tx_shape.specs.Boxes.{group_begun}
use Rattle.tx_reading.proofs.Stages.{shape-begun-by}
use Rattle.tx_reading.proofs.stage.feed_open.Goals as goal

pub returns : goal.returns
returns c = rw c.shaped.ensures (shape-begun-by (λ more. group_begun c.args.opener (Took c.args.token.now ∷ more)) _ c.feed_open.result refl c.feed_open.ensures)
