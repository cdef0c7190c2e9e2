use Rattle.std.proofs.Common.{ap}
use Rattle.std.specs.Prelude.{reverse}
use Rattle.tx_list.proofs.Reversed.{same-reversed}
use Rattle.tx_cond.proofs.stack.CondStack.same.Goals as goal

pub returns : goal.returns
returns c = rw (← c.self.view_is, ← c.other.view_is) (λ h. ap reverse (c.same.ensures.0 h), λ h. c.same.ensures.1 (same-reversed _ _ h))
