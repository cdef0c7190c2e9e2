use Rattle.std.proofs.Common.{arith}
use Rattle.tx_quiesce.proofs.Origins.{carried-end, carried-back, carried-whole}
use Rattle.tx_quiesce.proofs.tails.carried_from.Goals as goal

pub loop-left-init : goal.loop-left-init
loop-left-init c = record { within = omega arith; led = carried-end c.args.changes.now c.args.name.now c.args.here _ (omega arith) }

pub loop-left-preserved : goal.loop-left-preserved
loop-left-preserved c = record {
  within = omega (arith, c.loop-left.invariant.within);
  led = carried-back c.args.changes.now c.args.name.now (omega (arith, c.loop-left-test.true)) c.loop-left.invariant.within c.index-changes-left.is c.in-Some.ensures c.loop-left.invariant.led;
}

pub returns : goal.returns
returns c = carried-whole c.args.changes.now c.args.name.now c.loop-left.left (omega (arith, c.loop-left-test.false)) c.loop-left.invariant.led
