use Rattle.tx_shape.proofs.LoadSteps.{other-read}
use Rattle.tx_shape.proofs.loading.LoadScan.feed_other.Goals as goal

pub returns : goal.returns
returns c =
    other-read c.args.self.now.place c.args.self.now.name c.new.result c.args.token.now c.feed_scaled.new.self c.feed_scaled.result c.new.ensures.scan c.feed_scaled.ensures.reads c.feed_scaled.ensures.needs c.feed_scaled.ensures.waits
