use Rattle.std.proofs.Common.{inl, inr}
use Rattle.tx_pending.proofs.Places.{end-tells, through}
use Rattle.tx_pending.proofs.same.same_elements.Goals as goal
use Rattle.tx_pending.proofs.same.same_elements.Goals.{then-loop-here-test+else-there-gt0, else-loop-here-test}

pub returns : goal.returns
returns c = through c.loop-here.invariant.same (end-tells c.args.one.now c.args.other.now c.loop-here.here c.loop-here.there c.loop-here.invariant.here c.loop-here.invariant.there
    (elim c.loop-here-test.branch [ then-loop-here-test+else-there-gt0 w ↦ inr w.if-there-gt0.false | else-loop-here-test w ↦ inl w.loop-here-test.false ]))
