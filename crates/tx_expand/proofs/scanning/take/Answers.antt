use Rattle.tx_expand.specs.Parts.{rest, held, more_needed}
use Rattle.tx_expand.specs.Scans.{reading}
use Rattle.tx_expand.specs.Turns.{joined}
use Rattle.tx_scan.proofs.Settling.{token-pending}
use Rattle.tx_expand.proofs.scanning.take.Goals as goal

pub returns : goal.returns
returns g c =
    c.settle.ensures c.args.what (joined (g.Q.Quantities.value_at c.args.quantities.now) (record { what = c.args.what; taken = c.args.taken.now }) c.args.token)
    (rw c.in_ok-push.ensures.ok
    (token-pending (g.Q.Quantities.value_at c.args.quantities.now) rest held more_needed (reading c.args.what) c.args.taken.now c.args.token c.args.part.now c.feed.new.self c.in_ok-fed.fed
    c.requires.reads c.requires.few c.in_ok-fed.ensures.fed c.in_ok-fed.ensures.needs))
