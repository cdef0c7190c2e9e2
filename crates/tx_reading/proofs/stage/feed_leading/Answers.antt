use Rattle.std.proofs.Common.{rules}
use Rattle.tx_reading.proofs.Stages.{leading-glued}
use Rattle.tx_reading.proofs.stage.feed_leading.Goals as goal

pub returns-in-Some : goal.returns-in-Some
returns-in-Some c =
    leading-glued c.args.mode c.in-Some.form c.args.token.now c.begin_shape.new.scans c.begin_shape.result (search rules) (search rules) (search rules) c.begin_shape.ensures
