use Rattle.tx_toklist.proofs.Placed.{placed-token}
use Rattle.tx_toklist.proofs.body.Body.push_token.Goals as goal

pub invariant_of-self : goal.invariant_of-self
invariant_of-self c = placed-token c.push.result c.self.inside.tokens c.push.new.self c.args.token c.self.inside.slots c.push.ensures.ok c.push.ensures.err c.self.invariant
