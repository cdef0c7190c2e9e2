use Rattle.std.proofs.Common.{length}
use Rattle.tx_toklist.proofs.Placed.{placed-argument}
use Rattle.tx_toklist.proofs.body.Body.push_argument.Goals as goal

pub invariant_of-self : goal.invariant_of-self
invariant_of-self c = placed-argument c.push.result (length c.self.inside.tokens) c.args.number c.self.inside.slots c.push.new.self (rw c.len-before.ensures at c.push.ensures.ok) c.push.ensures.err c.self.invariant
