use Rattle.std.proofs.Common.{◌≡◌, rules}
use Rattle.tx_scan.proofs.Behind.{last-taken}
use Rattle.tx_reading.proofs.taking.supply.Goals as goal

pub settle-requires-clause-last : goal.settle-requires-clause-last
settle-requires-clause-last g c =
    let same : c.in_ok-behind.behind ≡ c.args.token = search rules in
    rw (c.in_ok-push.ensures.ok, same) (last-taken c.args.taken.now c.args.token)

pub returns-clause-settled : goal.returns-clause-settled
returns-clause-settled g c = λ mode head items p.
    c.settle.ensures.settled mode head items (rw c.in_ok-push.ensures.ok p)
