use Rattle.std.proofs.Common.{refl}
use Rattle.tx_reading.proofs.Stages.{shape-begun}
use Rattle.tx_reading.proofs.stage.begin_shape.Goals as goal

pub returns : goal.returns
returns c = rw c.shaped.ensures (shape-begun c.args.shaping _ c.begin.result refl c.begin.ensures)
