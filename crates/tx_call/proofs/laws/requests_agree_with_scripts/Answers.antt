use Rattle.tx_call.proofs.Agreeing.{agrees}
use Rattle.tx_call.proofs.laws.requests_agree_with_scripts.Goals as goal

pub returns : goal.returns
returns g c = λ t command. agrees g.M.Machine.formatter t command
