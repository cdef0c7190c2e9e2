use Rattle.tx_request.proofs.Fronts.{only_reading}
use Rattle.tx_request.proofs.laws.requests_are_read_in_one_way.Goals as goal

pub returns : goal.returns
returns c bytes one other rest later h k = only_reading bytes one other rest later h k
