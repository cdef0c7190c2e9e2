use Rattle.std.proofs.Common.{◌≡◌, ◌++◌, drop, map}
use Rattle.std.specs.Prelude.{slice_index}
use Rattle.tx_hyphenate.proofs.places.lowered.Given as goal

abbrev pub invariant-loop-code : goal.invariant-loop-code
invariant-loop-code l =
    l.letters ++ map (slice_index l.lower) (drop l.code-index l.codes) ≡ map (slice_index l.lower) l.codes
