use Rattle.std.proofs.Common.{refl}
use Rattle.tx_shape.specs.declared.loading.LoadStage.TheVariants as stage
use Rattle.tx_shape.proofs.LoadSteps.{name-begun}
use Rattle.tx_shape.proofs.loading.LoadScan.begin_name.Goals as goal

pub returns : goal.returns
returns c =
    name-begun (record c.args.self.now { file = c.restart.new.self; stage = stage.Name }) c.feed_name.new.self c.args.token.now c.feed_name.result refl c.restart.ensures.scan c.feed_name.ensures
