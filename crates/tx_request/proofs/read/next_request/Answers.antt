use Rattle.tx_request.proofs.Pieces.{next_asks, next_broken, next_refused}
use Rattle.tx_request.proofs.read.next_request.Goals as goal

pub returns-in-Ok-Some-clause-next : goal.returns-in-Ok-Some-clause-next
returns-in-Ok-Some-clause-next g c = next_asks c.in-Ok-Some.request (g.I.Inlet.left c.args.inlet.now) (g.I.Inlet.left c.request.new.inlet) (rw c.in-Ok-Some.field-0-is at c.in-Ok-Some.ensures.streams)

pub returns-in-Err-Refused-clause-next : goal.returns-in-Err-Refused-clause-next
returns-in-Err-Refused-clause-next g c =
    next_refused c.refuse.result c.in-Err-Refused.rule c.in-Err-Refused.passed (g.I.Inlet.left c.args.inlet.now) (g.I.Inlet.left c.request.new.inlet) (g.I.Inlet.left c.refuse.new.inlet) (rw c.in-Err-Refused.field-0-is at c.in-Err-Refused.ensures.streams) c.refuse.ensures.refused

pub returns-in-Err-Failed-clause-next : goal.returns-in-Err-Failed-clause-next
returns-in-Err-Failed-clause-next g c = next_broken (g.I.Inlet.left c.args.inlet.now) (g.I.Inlet.left c.request.new.inlet) (rw c.in-Err-Failed.field-0-is at c.in-Err-Failed.ensures.streams)
