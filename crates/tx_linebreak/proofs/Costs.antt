-- The costs of a line, added in 128 bits.
use Rattle.std.proofs.Common.{◌≡◌, ◌+◌, ◌≤◌, ◌^◌, ℤ, ◌+ℤ◌, unsigned_abs, refl, sym, ap, subst, ◌∙◌, arith}
use Rattle.std.specs.Prelude.{FitsSigned}
use Rattle.std.proofs.lemmas.Int.{fits_signed_from_abs, ints}
use mir.Syntax.{w128}
use Rattle.tx_linebreak.proofs.Summing.{added, back, through}

module _ (a b c d e : ℤ) (ha : unsigned_abs a ≤ 100000000) (hb : unsigned_abs b ≤ 2 ^ 62) (hc : unsigned_abs c ≤ 2 ^ 31) (hd : unsigned_abs d ≤ 2 ^ 31) (he : unsigned_abs e ≤ 2 ^ 31) where
  two : unsigned_abs (a +ℤ b) ≤ 100000000 + 2 ^ 62
  two = omega (arith, ints)

  three : unsigned_abs (a +ℤ b +ℤ c) ≤ 100000000 + 2 ^ 62 + 2 ^ 31
  three = let h = two in omega (arith, ints)

  four : unsigned_abs (a +ℤ b +ℤ c +ℤ d) ≤ 100000000 + 2 ^ 62 + 2 ^ 31 + 2 ^ 31
  four = let h = three in omega (arith, ints)

  pub cost_small : unsigned_abs (a +ℤ b +ℤ c +ℤ d +ℤ e) ≤ 2 ^ 63
  cost_small = let h = four in omega (arith, ints)

  pub cost_is : through (through (through (through a +ℤ through b) +ℤ through c) +ℤ through d) +ℤ through e ≡ a +ℤ b +ℤ c +ℤ d +ℤ e
  cost_is =
      let s1 = added a a b refl (omega arith) (omega arith) in
      let s2 = added (through a +ℤ through b) (a +ℤ b) c s1 (let h = two in omega arith) (omega arith) in
      let s3 = added (through (through a +ℤ through b) +ℤ through c) (a +ℤ b +ℤ c) d s2 (let h = three in omega arith) (omega arith) in
      added (through (through (through a +ℤ through b) +ℤ through c) +ℤ through d) (a +ℤ b +ℤ c +ℤ d) e s3 (let h = four in omega arith) (omega arith)

  pub cost_fits : FitsSigned w128 (through (through (through (through a +ℤ through b) +ℤ through c) +ℤ through d) +ℤ through e)
  cost_fits = subst (FitsSigned w128) (sym cost_is) (fits_signed_from_abs w128 (a +ℤ b +ℤ c +ℤ d +ℤ e) (let h = cost_small in omega arith))

  pub cost_back : through (through (through (through (through a +ℤ through b) +ℤ through c) +ℤ through d) +ℤ through e) ≡ a +ℤ b +ℤ c +ℤ d +ℤ e
  cost_back = ap through cost_is ∙ back (a +ℤ b +ℤ c +ℤ d +ℤ e) (a +ℤ b +ℤ c +ℤ d +ℤ e) (let h = cost_small in omega arith) refl
