use Rattle.tx_shape.proofs.Steps.{group-there}
use Rattle.tx_shape.proofs.scans.ShapeScan.feed_open.Goals as goal

pub returns-in-Done : goal.returns-in-Done
returns-in-Done c = group-there c.args.opener c.feed.new.self c.args.token.now c.args.self.now c.in-Done.back c.in-Done.field-0 c.in-Done.ensures.fed
