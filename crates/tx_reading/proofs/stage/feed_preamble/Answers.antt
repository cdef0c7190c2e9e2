use Rattle.std.proofs.Common.{rules}
use Rattle.tx_reading.proofs.Stages.{preamble-tabskip}
use Rattle.tx_reading.proofs.stage.feed_preamble.Goals as goal

pub returns-in-Tabskip : goal.returns-in-Tabskip
returns-in-Tabskip c = λ mode head. preamble-tabskip c.preamble_part.result c.args.token.now c.begin_place.new.scans c.begin_place.result c.preamble_part.ensures (search rules) c.begin_place.ensures mode head
