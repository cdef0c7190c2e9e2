use Rattle.tx_expand.specs.Values.{lent, value_now}
use Rattle.tx_expand.proofs.Turning.{reads-on}
use Rattle.tx_expand.proofs.innermost.read_by.Goals as goal

pub returns : goal.returns
returns c = reads-on (value_now (lent c.args.known.now)) c.args.begun.now c.in-Scanning.scanning c.feed.new.self c.args.token c.args.input.now c.feed.new.input c.feed.result c.in-Scanning.is c.feed.ensures
