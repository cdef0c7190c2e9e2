use Rattle.tx_reading.proofs.Stages.{first-defining}
use Rattle.tx_reading.proofs.Told.{no-name}
use Rattle.tx_reading.proofs.stage.feed_first.Goals as goal

pub returns-in-Defining : goal.returns-in-Defining
returns-in-Defining c = first-defining c.args.mode c.args.head.now _ c.in-Defining.name c.in-Defining.kind c.args.token.now c.feed_defining.new.scans c.args.made.now c.feed_defining.result c.in-Defining.is c.feed_defining.ensures

pub feed_head-requires : goal.feed_head-requires
feed_head-requires c = no-name c.args.head.now c.in_default.not-Defining
