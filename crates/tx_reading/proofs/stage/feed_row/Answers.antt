use Rattle.std.proofs.Common.{rules}
use Rattle.tx_reading.proofs.Stages.{started-open}
use Rattle.tx_reading.proofs.stage.feed_row.Goals as goal

pub returns-in-NoAlign : goal.returns-in-NoAlign
returns-in-NoAlign c = λ mode head. rw c.in-NoAlign.is (started-open c.args.token.now c.begin_shape.new.scans c.begin_shape.result (search rules) c.begin_shape.ensures mode head)
