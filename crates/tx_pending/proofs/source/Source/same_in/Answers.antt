use Rattle.tx_pending.proofs.ListSteps.{line-not-in, held-not-in, part-not-in}
use Rattle.tx_pending.proofs.source.Source.same_in.Goals as goal

pub returns-in-Line : goal.returns-in-Line
returns-in-Line c = (
  (λ t. absurd (cc t)),
  (λ e. absurd (line-not-in c.args.list.now c.args.list_place c.args.self.now c.in-Line.field-0 c.args.place c.in-Line.is c.requires.here e)),
)

pub returns-in-Held : goal.returns-in-Held
returns-in-Held c = (
  (λ t. absurd (cc t)),
  (λ e. absurd (held-not-in c.args.list.now c.args.list_place c.args.self.now c.in-Held.field-0 c.args.place c.in-Held.is c.requires.here e)),
)

pub returns-in-PartEnd : goal.returns-in-PartEnd
returns-in-PartEnd c = (
  (λ t. absurd (cc t)),
  (λ e. absurd (part-not-in c.args.list.now c.args.list_place c.args.self.now c.in-PartEnd.field-0 c.args.place c.in-PartEnd.is c.requires.here e)),
)
