use Rattle.std.proofs.Common.{◌≡◌, ◌++◌, ◌<◌, drop}
use Rattle.std.specs.List.{All}
use Rattle.tx_hyphenate.specs.Hyphenated.{placed}
use Rattle.tx_hyphenate.proofs.places.moved.Given as goal

abbrev pub invariant-loop-place : goal.invariant-loop-place
invariant-loop-place l =
    record {
      value : l.further ++ placed l.count l.length (drop l.place-index l.places) ≡ placed l.count l.length l.places;
      between : All (λ place. (0 < place) × (place < l.length)) l.further;
    }
