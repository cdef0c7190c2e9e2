use Rattle.std.proofs.Common.{ap}
use Rattle.std.specs.Prelude.{reverse}
use Rattle.tx_list.proofs.Reversed.{none-reversed}
use Rattle.tx_list.proofs.stack.Stack.is_empty.Goals as goal

pub returns : goal.returns
returns g c = rw (← c.self.view_is) (λ h. ap reverse (c.is_empty.ensures.0 h), λ h. c.is_empty.ensures.1 (none-reversed _ h))
