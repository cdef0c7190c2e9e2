use Rattle.std.proofs.Common.{sym}
use Rattle.tx_pending.proofs.ListSteps.{no-entry}
use Rattle.tx_pending.proofs.source.Source.begins_entry.Goals as goal

pub returns-in-List : goal.returns-in-List
returns-in-List c = sym (no-entry c.args.self.now c.in-List.field-0 c.in-List.is)
