use Rattle.std.proofs.Common.{rules}
use Rattle.tx_reading.proofs.Alone.{at-once}
use Rattle.tx_reading.proofs.single.at_once.Goals as goal

pub returns : goal.returns
returns c =
    at-once c.args.scan.now c.mode.result c.args.seen.now c.alone_in.result (search rules) (search rules) (search rules) c.alone_in.ensures
