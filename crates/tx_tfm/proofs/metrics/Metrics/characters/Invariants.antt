use Rattle.std.proofs.Common.{◌≡◌, ℕ, ◌<◌, get_or, vec_len}
use Rattle.tx_tfm.specs.Characters.{IsSaid, unsaid}
use Rattle.tx_tfm.proofs.metrics.Metrics.characters.Given as goal

abbrev pub invariant-loop-code : goal.invariant-loop-code
invariant-loop-code l =
    (vec_len l.by_code ≡ l.code) × ((k : ℕ) → k < l.code → IsSaid l.self k (get_or l.by_code.items k unsaid))
