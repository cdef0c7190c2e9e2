use Rattle.tx_pending.proofs.ListSteps.{spent-tells}
use Rattle.tx_pending.proofs.list.ListReading.is_spent.Goals as goal

pub returns-then-not-self : goal.returns-then-not-self
returns-then-not-self c =
    spent-tells c.args.self.now c.self.inside.list c.self.inside.read c.self.inside.end c.self.inside.marked c.self.view_is c.self.invariant.1 c.if-not-self.true
