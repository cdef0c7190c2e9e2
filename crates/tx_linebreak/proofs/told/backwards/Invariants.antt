use Rattle.std.proofs.Common.{◌≡◌, ◌<◌, ◌++◌, length, map}
use Rattle.std.specs.Prelude.{filter}
use Rattle.tx_linebreak.specs.Shared.{chain_at}
use Rattle.tx_linebreak.proofs.told.backwards.Given as goal

abbrev pub invariant-loop-link : goal.invariant-loop-link
invariant-loop-link l =
    (l.at < length l.chains) × (l.places.items ++ map (λ line. line.place) (chain_at l.chains l.at) ≡ map (λ line. line.place) (chain_at l.chains l.chain)) × (l.forced.items ++ map (λ line. line.place) (filter (λ line. line.forced) (chain_at l.chains l.at)) ≡ map (λ line. line.place) (filter (λ line. line.forced) (chain_at l.chains l.chain)))

abbrev pub decreases-loop-link : goal.decreases-loop-link
decreases-loop-link l = l.at
