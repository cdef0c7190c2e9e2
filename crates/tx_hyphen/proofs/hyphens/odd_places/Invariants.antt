use Rattle.std.proofs.Common.{◌≡◌, ◌-◌, ◌++◌, filter, get_or}
use Rattle.std.specs.Prelude.{◌%◌, ◌==◌}
use Rattle.std.specs.List.{range_with_len}
use Rattle.tx_hyphen.proofs.hyphens.odd_places.Given as goal

abbrev pub invariant-loop-place : goal.invariant-loop-place
invariant-loop-place l =
    l.places ++ filter (λ k. get_or l.levels k 0 % 2 == 1) (range_with_len l.place (l.end - l.place))
    ≡ filter (λ k. get_or l.levels k 0 % 2 == 1) (range_with_len l.first (l.end - l.first))
