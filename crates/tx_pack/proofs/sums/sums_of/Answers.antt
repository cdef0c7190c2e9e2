use Rattle.tx_pack.proofs.Runs.{stops}
use Rattle.tx_pack.proofs.sums.sums_of.Goals as goal

pub returns-in-None-clause-value : goal.returns-in-None-clause-value
returns-in-None-clause-value c = stops c.args.direction c.args.list.now c.loop-node.node-index c.loop-node.sums c.loop-node-test.true c.node-item.is c.loop-node.invariant.rest c.in-None.ensures.value
