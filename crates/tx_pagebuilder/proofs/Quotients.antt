-- Quotients that are rounded towards 0 are no greater than what is divided.
use Rattle.std.proofs.Common.{◌≤◌, ℕ, suc, ◌/◌, ℤ, pos, negsuc, neg_ℤ, unsigned_abs, arith}
use Rattle.std.proofs.Math.Nat.{div-le_self}
use Rattle.std.proofs.lemmas.Int.{ints}
use Rattle.std.specs.Prelude.{int_div}

negated-small : (a b : ℕ) → a ≤ b → unsigned_abs (neg_ℤ (pos a)) ≤ b
negated-small a b h = omega (arith, ints, h)

pub quotient_small : (x y : ℤ) → unsigned_abs (int_div x y) ≤ unsigned_abs x
quotient_small (pos a) (pos b) = div-le_self a b
quotient_small (pos a) (negsuc b) = negated-small (a / suc b) a (div-le_self a (suc b))
quotient_small (negsuc a) (pos b) = negated-small (suc a / b) (suc a) (div-le_self (suc a) b)
quotient_small (negsuc a) (negsuc b) = div-le_self (suc a) (suc b)
