use Rattle.tx_expand.proofs.PartSteps.{shown-given}
use Rattle.tx_expand.proofs.part.Part.give.Goals as goal

pub returns-in-Shown-clause-given : goal.returns-in-Shown-clause-given
returns-in-Shown-clause-given c =
    shown-given c.in-Shown.to c.args.value.now c.args.self.now c.in-Shown.scan c.give.new.self c.give.result c.quantity_shown.result c.in-Shown.is c.give.ensures.part c.quantity_shown.ensures
