use Rattle.std.proofs.Common.{◌∙◌}
use Rattle.tx_list.proofs.Reversed.{first-reversed}
use Rattle.tx_list.proofs.stack.Stack.first.Goals as goal

pub returns : goal.returns
returns g c = rw (← c.self.view_is) (rw c.as_slice.ensures at c.last.ensures.value ∙ first-reversed c.self.inside.oldest_first)
