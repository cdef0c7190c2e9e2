use Rattle.tx_gen.proofs.Steps.{stepped}
use Rattle.tx_gen.proofs.draws.next.Goals as goal

pub returns : goal.returns
returns c = stepped c.args.state
