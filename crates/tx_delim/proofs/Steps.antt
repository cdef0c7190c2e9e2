-- How many steps make up for what is lacking.
use Rattle.std.proofs.Common.{◌≤◌, ◌+◌, ◌-◌, ◌*◌, ◌/◌, ◌^◌, ℕ, arith}
use Rattle.std.proofs.Math.Nat.{div-le_self, div-mul-le_self}

pub steps_small : (lacking step : ℕ) → step ≤ 2 ^ 33 → lacking ≤ 2 ^ 60 → (lacking + step - 1) / step * step ≤ 2 ^ 61
steps_small lacking step h k = omega (arith, h, k, div-mul-le_self (lacking + step - 1) step)

pub few_steps : (lacking step : ℕ) → step ≤ 2 ^ 33 → lacking ≤ 2 ^ 60 → (lacking + step - 1) / step ≤ 2 ^ 61
few_steps lacking step h k = omega (arith, h, k, div-le_self (lacking + step - 1) step)
