use Rattle.tx_toklist.proofs.Placed.{placed-tokens}
use Rattle.tx_toklist.proofs.body.Body.append.Goals as goal

pub invariant_of-self : goal.invariant_of-self
invariant_of-self c = placed-tokens c.append.result c.self.inside.tokens c.append.new.self c.args.tokens.now c.append.new.others c.self.inside.slots c.append.ensures.ok c.append.ensures.err c.self.invariant
