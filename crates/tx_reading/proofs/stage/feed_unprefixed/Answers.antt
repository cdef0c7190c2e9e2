use Rattle.tx_reading.proofs.Stages.{first-variable}
use Rattle.tx_reading.proofs.stage.feed_unprefixed.Goals as goal

pub returns-in-Some : goal.returns-in-Some
returns-in-Some c = first-variable c.args.mode c.args.head.now c.args.token.now c.in-Some.variable c.start_variable.new.scans c.start_variable.result c.requires c.in-Some.ensures c.start_variable.ensures

pub feed_head-requires : goal.feed_head-requires
feed_head-requires c = rw c.requires tt
