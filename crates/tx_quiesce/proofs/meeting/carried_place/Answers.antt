use Rattle.std.proofs.Common.{ap, arith}
use Rattle.tx_files.specs.Carry.{carried_place}
use Rattle.tx_quiesce.proofs.Places.{place-on, place-lost, place-all}
use Rattle.tx_quiesce.proofs.meeting.carried_place.Goals as goal

pub loop-at-init : goal.loop-at-init
loop-at-init c = record { so_far = ap (carried_place c.args.changes.now c.args.name.now) c.from-here.ensures; near = omega arith }

pub place_after-requires : goal.place_after-requires
place_after-requires c = omega (arith, c.loop-at.invariant.near, c.loop-at-test.true)

pub loop-at-preserved : goal.loop-at-preserved
loop-at-preserved c = record {
  so_far = place-on c.args.changes.now c.args.name.now c.args.offset c.loop-at.here c.loop-at.at c.loop-at.invariant.so_far c.loop-at-test.true c.index-changes-at.is c.in-Some.ensures.place;
  near = omega (arith, c.loop-at.invariant.near, c.in-Some.ensures.near);
}

pub returns-in-None : goal.returns-in-None
returns-in-None c = place-lost c.args.changes.now c.args.name.now c.args.offset c.loop-at.here c.loop-at.at c.loop-at.invariant.so_far c.loop-at-test.true c.index-changes-at.is c.in-None.ensures.place

pub returns : goal.returns
returns c = place-all c.args.changes.now c.args.name.now c.args.offset c.loop-at.here c.loop-at.at c.loop-at.invariant.so_far (omega (arith, c.loop-at-test.false))
