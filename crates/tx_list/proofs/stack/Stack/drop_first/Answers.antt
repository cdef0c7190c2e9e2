use Rattle.tx_list.proofs.Reversed.{rest-reversed}
use Rattle.tx_list.proofs.stack.Stack.drop_first.Goals as goal

pub returns : goal.returns
returns g c = rw (← c.self.view_is) (rest-reversed c.pop.result c.self.inside.oldest_first c.pop.new.self c.pop.ensures)
