-- Sums that no signed number of 64 bits is lie far from the corner of a page.
use Rattle.std.proofs.Common.{◌≡◌, ◌&&◌, Bool, true, false, ℤ, pos, negsuc, FitsSigned, w64, refl, arith}
use Rattle.std.proofs.lemmas.Bool.Decides.{nat_tests}
use Rattle.tx_dvitype.specs.Partial.{is_within}

pub far : (z : ℤ) → (FitsSigned w64 z → ⊥) → is_within z ≡ false
far (pos n) far_off = grind (arith, nat_tests)
far (negsuc n) far_off = grind (arith, nat_tests)

pub false-right : (a b : Bool) → b ≡ false → (a && b) ≡ false
false-right false b is = refl
false-right true b is = is
