use Rattle.std.proofs.Common.{rules}
use Rattle.tx_reading.proofs.Stages.{load-begun}
use Rattle.tx_reading.proofs.stage.feed_loading.Goals as goal

pub returns : goal.returns
returns c = λ mode head.
    rw c.loaded.ensures (load-begun mode head c.in_ok-clone.field-0 c.args.name.now c.args.token.now _ c.in_ok-begin.field-0 (search rules) (search rules) c.in_ok-begin.ensures)
