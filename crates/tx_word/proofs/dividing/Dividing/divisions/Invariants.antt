use Rattle.std.proofs.Common.{◌≡◌, ◌++◌, drop}
use Rattle.std.specs.List.{filter_map}
use Rattle.tx_word.specs.Dividing.{divisions_in, last_in, seam_in}
use Rattle.tx_word.specs.Divisions.{division_at}
use Rattle.tx_word.proofs.dividing.Dividing.divisions.Given as goal

abbrev pub invariant-loop-place : goal.invariant-loop-place
invariant-loop-place l =
    l.divisions ++ filter_map (division_at (seam_in l.self) (last_in l.self) l.self.places.now) (drop l.place-index l.self.places.now) ≡ divisions_in l.self
