use Rattle.tx_call.proofs.RequestBounds.{all-most}
use Rattle.tx_call.proofs.laws.requests_take_no_more_turns.Goals as goal

pub returns : goal.returns
returns g c = λ t events. all-most g.M.Machine.formatter g.met.M.Machine.lawful t events
