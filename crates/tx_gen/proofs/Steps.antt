-- The state after a state, as it is computed in 64 bits.
use Rattle.std.proofs.Common.{◌≡◌, ℕ, ◌+◌, ◌*◌, ◌%◌, ◌^◌}
use Rattle.std.proofs.Math.Nat.{mod-add-mod}
use Rattle.tx_gen.specs.Draws.{next}

pub stepped : (state : ℕ) → (6364136223846793005 * state % 2 ^ 64 + 1442695040888963407) % 2 ^ 64 ≡ next state
unfolding next
stepped state = mod-add-mod (6364136223846793005 * state) (2 ^ 64) 1442695040888963407
