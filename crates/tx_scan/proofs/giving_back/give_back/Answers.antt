use Rattle.std.proofs.Common.{rules}
use Rattle.tx_scan.proofs.GivingBack.{took-back, gave-back}
use Rattle.tx_scan.proofs.giving_back.give_back.Goals as goal

pub loop-left-preserved-in-Some-Took : goal.loop-left-preserved-in-Some-Took
loop-left-preserved-in-Some-Took c =
    took-back c.loop-left.input c.give_back.new.self c.loop-left.taken c.pop.new.self c.in-Some-Took.seen c.loop-left.left _
    (rw c.in-Some-Took.field-0-is at c.in-Some-Took.ensures) (search rules) (rw c.token_of.ensures at c.in_ok-give_back-in-Some-Took.ensures.ok) c.loop-left.invariant

pub loop-left-preserved : goal.loop-left-preserved
loop-left-preserved c =
    gave-back c.loop-left.input c.loop-left.taken c.pop.new.self c.in-Some-Gave.field-0-0 c.loop-left.left _
    (rw c.in-Some-Gave.field-0-is at c.in-Some-Gave.ensures) c.loop-left.invariant
