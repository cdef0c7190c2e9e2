-- Fractions rounded to the nearest whole number.
use Rattle.std.specs.Prelude.{ℕ, suc, ◌+◌, ◌*◌, ◌/◌, Bool, true, false, ℤ, pos, negsuc, neg_ℤ}

-- a divided by b, to the nearest whole number, halves upwards
abbrev pub nearest : ℕ → ℕ → ℕ
nearest a b = (2 * a + b) / (2 * b)

-- the same of numbers with signs, halves away from zero
abbrev pub nearest_signed : ℤ → ℤ → ℤ
nearest_signed (pos a) (pos b) = pos (nearest a b)
nearest_signed (pos a) (negsuc b) = neg_ℤ (pos (nearest a (suc b)))
nearest_signed (negsuc a) (pos b) = neg_ℤ (pos (nearest (suc a) b))
nearest_signed (negsuc a) (negsuc b) = pos (nearest (suc a) (suc b))

-- n, or -n where the flag is set
abbrev pub signed : Bool → ℕ → ℤ
signed false n = pos n
signed true n = neg_ℤ (pos n)
