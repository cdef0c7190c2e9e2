use Rattle.tx_pending.proofs.ListSteps.{no-part}
use Rattle.tx_pending.proofs.source.Source.has_part_end.Goals as goal

pub returns-in-List : goal.returns-in-List
returns-in-List c = ((λ t. absurd (cc t)), (λ e. absurd (no-part c.args.self.now c.in-List.field-0 c.args.place c.args.part c.in-List.is e)))
