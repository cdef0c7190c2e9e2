use Rattle.tx_pending.proofs.ListSteps.{no-line}
use Rattle.tx_pending.proofs.source.Source.has_line.Goals as goal

pub returns-in-List : goal.returns-in-List
returns-in-List c = ((λ t. absurd (cc t)), (λ e. absurd (no-line c.args.self.now c.in-List.field-0 c.args.place c.args.line.now c.in-List.is e)))
