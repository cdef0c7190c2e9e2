-- A number that was written in as many bytes as it needs is read back from them.
use Rattle.std.proofs.Common.{◌≡◌, ℕ, ◌-◌, ◌*◌, ◌^◌, ◌<◌, ◌≤◌, ◌-ℤ◌, ℤ, pos, negsuc, unsigned_abs, drop, refl, arith, nat_lt, Bool, true, false, cond}
use Rattle.std.proofs.lemmas.Int.{ints}
use Rattle.std.proofs.lemmas.Bool.{ltb-true, ltb-false}
use Rattle.byteorder.specs.Endian.{big_number, twos_complement}
use Rattle.tx_dvi.specs.Dvi.{four_bytes}
use Rattle.tx_dvi.specs.Meaning.{signed}

-- a number by its bits, of so many bytes
twos-is : (n x : ℕ) (z : ℤ) → (x < 2 ^ (8 * n - 1) → pos x ≡ z) → (2 ^ (8 * n - 1) ≤ x → pos x -ℤ pos (2 ^ (8 * n)) ≡ z) → twos_complement n x ≡ z
twos-is n x z low high = by (nat_lt x (2 ^ (8 * n - 1))) refl
  where
    by : (b : Bool) → nat_lt x (2 ^ (8 * n - 1)) ≡ b → cond b (pos x) (pos x -ℤ pos (2 ^ (8 * n))) ≡ z
    by true e = low (ltb-true _ _ e)
    by false e = high (ltb-false _ _ e)

pub signed-back1 : (z : ℤ) → unsigned_abs z < 128 → signed 1 (drop 3 (four_bytes z)) ≡ z
unfolding four_bytes
signed-back1 (pos n) h = twos-is 1 (big_number 1 (drop 3 (four_bytes (pos n)))) (pos n) (λ l. omega (arith, ints, h)) (λ l. absurd (omega (arith, h, l)))
signed-back1 (negsuc n) h = twos-is 1 (big_number 1 (drop 3 (four_bytes (negsuc n)))) (negsuc n) (λ l. absurd (omega (arith, h, l))) (λ l. omega (arith, ints, h))

pub signed-back2 : (z : ℤ) → unsigned_abs z < 32768 → signed 2 (drop 2 (four_bytes z)) ≡ z
unfolding four_bytes
signed-back2 (pos n) h = twos-is 2 (big_number 2 (drop 2 (four_bytes (pos n)))) (pos n) (λ l. omega (arith, ints, h)) (λ l. absurd (omega (arith, h, l)))
signed-back2 (negsuc n) h = twos-is 2 (big_number 2 (drop 2 (four_bytes (negsuc n)))) (negsuc n) (λ l. absurd (omega (arith, h, l))) (λ l. omega (arith, ints, h))

pub signed-back3 : (z : ℤ) → unsigned_abs z < 8388608 → signed 3 (drop 1 (four_bytes z)) ≡ z
unfolding four_bytes
signed-back3 (pos n) h = twos-is 3 (big_number 3 (drop 1 (four_bytes (pos n)))) (pos n) (λ l. omega (arith, ints, h)) (λ l. absurd (omega (arith, h, l)))
signed-back3 (negsuc n) h = twos-is 3 (big_number 3 (drop 1 (four_bytes (negsuc n)))) (negsuc n) (λ l. absurd (omega (arith, h, l))) (λ l. omega (arith, ints, h))

pub signed-back4 : (z : ℤ) → unsigned_abs z < 2147483648 → signed 4 (drop 0 (four_bytes z)) ≡ z
unfolding four_bytes
signed-back4 (pos n) h = twos-is 4 (big_number 4 (drop 0 (four_bytes (pos n)))) (pos n) (λ l. omega (arith, ints, h)) (λ l. absurd (omega (arith, h, l)))
signed-back4 (negsuc n) h = twos-is 4 (big_number 4 (drop 0 (four_bytes (negsuc n)))) (negsuc n) (λ l. absurd (omega (arith, h, l))) (λ l. omega (arith, ints, h))
