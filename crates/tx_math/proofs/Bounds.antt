-- How large sums, products and quotients are.
use Rattle.std.proofs.Common.{◌≡◌, ◌∙◌, ◌≤◌, ◌*◌, ◌^◌, ◌/◌, ℕ, suc, Bool, true, false, cond, ℤ, pos, negsuc, neg_ℤ, ◌*ℤ◌, unsigned_abs, FitsSigned, w64, to_z, of_z, ap, arith}
use Rattle.std.proofs.Math.Nat.{div-le_self, mul-le-mul_left}
use Rattle.std.proofs.lemmas.Int.{ints, unsigned_abs-mul, fits_signed_mul, fits_signed_from_abs, to_z-of_z}
use Rattle.std.specs.Prelude.{max, int_div, int_lt}
use Rattle.std.specs.Int.{int_max, int_div_euclid}

one_of : (t : Bool) (a b : ℤ) → unsigned_abs (cond t a b) ≤ max (unsigned_abs a) (unsigned_abs b)
one_of true a b = omega arith
one_of false a b = omega arith

-- the greater of two is one of them
pub greater_small : (a b : ℤ) → unsigned_abs (int_max a b) ≤ max (unsigned_abs a) (unsigned_abs b)
greater_small a b = one_of (int_lt b a) a b

-- a product of two sizes
pub product_small : (a b : ℤ) → unsigned_abs b ≤ 2 ^ 31 → unsigned_abs (a *ℤ b) ≤ unsigned_abs a * 2 ^ 31
product_small a b h = omega (arith, unsigned_abs-mul a b, mul-le-mul_left (unsigned_abs a) h)

product_fits : (a b : ℤ) → unsigned_abs a ≤ 2 ^ 31 → unsigned_abs b ≤ 2 ^ 31 → FitsSigned w64 (a *ℤ b)
product_fits a b h k = fits_signed_mul w64 a b (2 ^ 31) (2 ^ 31) h k (omega arith)

abbrev through : ℤ → ℤ
through z = to_z w64 (of_z w64 z)

back : (z : ℤ) → unsigned_abs z ≤ 2 ^ 31 → through z ≡ z
back z h = to_z-of_z w64 z (fits_signed_from_abs w64 z (omega (arith, h)))

pub product_back : (a b : ℤ) → unsigned_abs a ≤ 2 ^ 31 → unsigned_abs b ≤ 2 ^ 31 → through (through a *ℤ through b) ≡ a *ℤ b
product_back a b h k =
    ap (λ (z : ℤ). through (z *ℤ through b)) (back a h) ∙ ap (λ (z : ℤ). through (a *ℤ z)) (back b k)
    ∙ to_z-of_z w64 (a *ℤ b) (product_fits a b h k)

-- a quotient that is rounded towards 0 is no greater than what is divided
negated_small : (a b : ℕ) → a ≤ b → unsigned_abs (neg_ℤ (pos a)) ≤ b
negated_small a b h = omega (arith, ints, h)

pub quotient_small : (x y : ℤ) → unsigned_abs (int_div x y) ≤ unsigned_abs x
quotient_small (pos a) (pos b) = div-le_self a b
quotient_small (pos a) (negsuc b) = negated_small (a / suc b) a (div-le_self a (suc b))
quotient_small (negsuc a) (pos b) = negated_small (suc a / b) (suc a) (div-le_self (suc a) b)
quotient_small (negsuc a) (negsuc b) = div-le_self (suc a) (suc b)

-- whole points of a size
pub points_small : (x : ℤ) → unsigned_abs x ≤ 2 ^ 31 → unsigned_abs (int_div_euclid x (pos 65536)) ≤ 2 ^ 16
points_small (pos a) h = omega arith
points_small (negsuc a) h = omega arith

-- a size by 500
part_of_small : (a : ℕ) → a ≤ 2 ^ 33 → a / 500 ≤ 2 ^ 25
part_of_small a h = omega (arith, h)

pub part_small : (x : ℤ) → unsigned_abs x ≤ 2 ^ 33 → unsigned_abs (int_div x (pos 500)) ≤ 2 ^ 25
part_small (pos a) h = part_of_small a h
part_small (negsuc a) h = negated_small (suc a / 500) (2 ^ 25) (part_of_small (suc a) h)
