use Rattle.std.proofs.Common.{◌≡◌, ℕ, ◌<◌, length, get_or}
use Rattle.std.specs.Prelude.{max, nat_lt, if◌then◌else◌}
use Rattle.tx_hyphen.proofs.lexicon.raise.Given as goal

abbrev pub invariant-loop-place : goal.invariant-loop-place
invariant-loop-place l =
    (k : ℕ) → k < length l.initial.levels
    → get_or l.levels k 0 ≡ max (get_or l.initial.levels k 0) (if nat_lt k l.place then get_or l.given k 0 else 0)
