use Rattle.tx_pending.proofs.ListSteps.{begins}
use Rattle.tx_pending.proofs.line.begins_so.Goals as goal

pub returns-then-first-code : goal.returns-then-first-code
returns-then-first-code c = begins c.args.text.now c.args.rest.now c.args.code c.same_bytes.result c.in-len1-up.len_at_least c.if-first-code.true c.same_bytes.ensures
