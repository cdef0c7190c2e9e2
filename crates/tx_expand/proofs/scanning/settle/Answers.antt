use Rattle.tx_scan.specs.Rests.{HasTakenBy}
use Rattle.tx_scan.proofs.Settling.{value-pending, pending-settled}
use Rattle.tx_expand.specs.Parts.{rest, held, more_needed}
use Rattle.tx_expand.specs.Scans.{reading}
use Rattle.tx_expand.proofs.scanning.settle.Goals as goal

pub loop-fed-preserved-in_ok-fed-in-Need : goal.loop-fed-preserved-in_ok-fed-in-Need
loop-fed-preserved-in_ok-fed-in-Need g c = λ what items p.
    rw c.in_ok-fed-in-Need.ensures.taken
    (value-pending (g.Q.Quantities.value_at c.args.quantities.now) rest held more_needed (reading what) items c.loop-fed.taken c.in-Need.kind c.loop-fed.part c.give.new.part c.in_ok-fed-in-Need.fed
    (rw c.in-Need.is at (c.loop-fed.invariant what items p)) c.in_ok-fed-in-Need.ensures.given c.in_ok-fed-in-Need.ensures.needs)

pub loop-fed-preserved : goal.loop-fed-preserved
loop-fed-preserved g c = λ what items p.
    rw c.in_ok-fed-in-Need.ensures.taken
    (value-pending (g.Q.Quantities.value_at c.args.quantities.now) rest held more_needed (reading what) items c.loop-fed.taken c.in-Need.kind c.loop-fed.part c.give.new.part c.in_ok-fed-in-Need.fed
    (rw c.in-Need.is at (c.loop-fed.invariant what items p)) c.in_ok-fed-in-Need.ensures.given c.in_ok-fed-in-Need.ensures.needs)

pub returns-in_default : goal.returns-in_default
returns-in_default g c = λ what items p.
    pending-settled (g.Q.Quantities.value_at c.args.quantities.now) (reading what) (HasTakenBy rest held (reading what)) more_needed items c.loop-fed.taken c.loop-fed.part c.loop-fed.fed c.in_default.not-Need (c.loop-fed.invariant what items p)
