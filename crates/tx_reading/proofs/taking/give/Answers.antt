use Rattle.std.proofs.Common.{◌≡◌, rules}
use Rattle.tx_scan.specs.Supplied.{value_for}
use Rattle.tx_reading.proofs.taking.give.Goals as goal

pub returns-clause-given : goal.returns-clause-given
returns-clause-given g c = λ mode head.
    let same : c.quantity-value.result ≡ value_for (g.Q.Quantities.value_at c.args.quantities.now) c.args.kind.now = search rules in
    rw (← same) (c.in_ok-fed.ensures.given mode head)
