-- How large quotients and remainders are, and so many times a count that ends.
use Rattle.std.proofs.Common.{◌≡◌, ◌≤◌, ◌<◌, ◌-◌, ◌*◌, ◌/◌, ◌%◌, ◌^◌, ◌⊎◌, inl, inr, ℕ, zero, suc, ap, ◌∙◌, arith}
use Rattle.std.proofs.Math.Nat.{div-le_self, mod-le, le-mul_of_pos_right, mul-le-mul_right}
use Rattle.std.proofs.lemmas.Bool.{cases_lt}
use Rattle.tx_node.specs.Counts.{ended}

pub quotient_least : (n k : ℕ) → n / k ≤ n
quotient_least n k = div-le_self n k

pub half_least : (n k : ℕ) → (n % k) / 2 ≤ n
half_least n k =
    let rest : n % k ≤ n = mod-le n k in
    let half : (n % k) / 2 ≤ n % k = div-le_self (n % k) 2 in
    omega (arith, rest, half)

-- so many times a count that ended ends where so many times the count itself does
pub ended_times : (n m : ℕ) → 1 ≤ m → ended (ended n * ended m) ≡ ended (n * m)
ended_times n m least = by (cases_lt (2 ^ 64 - 1) n) (cases_lt (2 ^ 64 - 1) m)
  where
    few : (k : ℕ) → 2 ^ 64 - 1 < m → ended (k * (2 ^ 64 - 1)) ≡ ended (k * m)
    few zero big = omega arith
    few (suc k) big =
        let more : 1 * m ≤ suc k * m = mul-le-mul_right m (omega arith) in
        omega (arith, more, big)

    by : (2 ^ 64 - 1 < n) ⊎ (n ≤ 2 ^ 64 - 1) → (2 ^ 64 - 1 < m) ⊎ (m ≤ 2 ^ 64 - 1) → ended (ended n * ended m) ≡ ended (n * m)
    by (inl big) other =
        let most : ended n ≡ 2 ^ 64 - 1 = omega (arith, big) in
        let all : n ≤ n * m = le-mul_of_pos_right n (omega (arith, least)) in
        let end : ended ((2 ^ 64 - 1) * ended m) ≡ ended (n * m) = omega (arith, all, big, least) in
        ap (λ (k : ℕ). ended (k * ended m)) most ∙ end
    by (inr small) (inl big) =
        let same : ended n ≡ n = omega (arith, small) in
        let most : ended m ≡ 2 ^ 64 - 1 = omega (arith, big) in
        ap (λ (k : ℕ). ended (k * ended m)) same ∙ ap (λ (k : ℕ). ended (n * k)) most ∙ few n big
    by (inr small) (inr low) =
        let same : ended n ≡ n = omega (arith, small) in
        let as_well : ended m ≡ m = omega (arith, low) in
        ap (λ (k : ℕ). ended (k * ended m)) same ∙ ap (λ (k : ℕ). ended (n * k)) as_well
