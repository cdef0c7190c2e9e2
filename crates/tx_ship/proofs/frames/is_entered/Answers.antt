use Rattle.tx_ship.proofs.Steps.{entered-is}
use Rattle.tx_ship.proofs.frames.is_entered.Goals as goal

pub returns : goal.returns
returns c = entered-is c.list.result.now c.list.ensures c.is_empty.ensures
