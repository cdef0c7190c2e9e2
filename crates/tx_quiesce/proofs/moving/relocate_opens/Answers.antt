use Rattle.std.proofs.Common.{arith}
use Rattle.tx_quiesce.proofs.Carrying.{carrying-begun, carrying-can, carrying-on, carrying-all}
use Rattle.tx_quiesce.proofs.moving.relocate_opens.Goals as goal

pub loop-at-init : goal.loop-at-init
loop-at-init c = carrying-begun c.requires

pub move_opens-requires : goal.move_opens-requires
move_opens-requires c = carrying-can c.loop-at.invariant c.loop-at-test.true c.index-changes-at.is

pub loop-at-preserved : goal.loop-at-preserved
loop-at-preserved c = carrying-on c.loop-at.invariant c.loop-at-test.true c.index-changes-at.is c.move_opens.ensures

pub returns : goal.returns
returns c = carrying-all c.loop-at.invariant (omega (arith, c.loop-at-test.false))
