use Rattle.std.proofs.Common.{rules}
use Rattle.std.proofs.lemmas.Fn.{always_returns_same}
use Rattle.tx_name.proofs.Places.{by_bytes, searched}
use Rattle.tx_name.proofs.bucket.search.Goals as goal

-- the closure compares an entry's name with the one that is sought
pub returns-clause-found : goal.returns-clause-found
returns-clause-found g c =
    let by_key = c.binary_search_by.ensures.position (λ e. by_bytes e.0 c.args.name.now) (always_returns_same _ _ _ (λ a r h called. search rules)) in
    (searched c.args.entries.now c.requires c.args.name.now _ c.binary_search_by.ensures.bound by_key).0

pub returns-clause-absent : goal.returns-clause-absent
returns-clause-absent g c =
    let by_key = c.binary_search_by.ensures.position (λ e. by_bytes e.0 c.args.name.now) (always_returns_same _ _ _ (λ a r h called. search rules)) in
    (searched c.args.entries.now c.requires c.args.name.now _ c.binary_search_by.ensures.bound by_key).1
