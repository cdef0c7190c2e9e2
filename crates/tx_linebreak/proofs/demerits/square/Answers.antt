use Rattle.std.proofs.Common.{◌≡◌, ◌∙◌, ◌≤◌, ◌^◌, ℤ, ◌*ℤ◌, unsigned_abs, FitsSigned, w32, w64, to_z, of_z, ap, sym, subst, arith}
use Rattle.std.proofs.Math.Nat.{mul-le-mul_left}
use Rattle.std.proofs.lemmas.Int.{ints, unsigned_abs-mul, fits_signed_mul, fits_signed_from_abs, to_z-of_z}
use mir.Syntax.{w128}
use Rattle.tx_linebreak.proofs.demerits.square.Goals as goal

abbrev through : ℤ → ℤ
through z = to_z w64 (of_z w64 z)

back : (z : ℤ) → unsigned_abs z ≤ 2 ^ 31 → through z ≡ z
back z h = to_z-of_z w64 z (fits_signed_from_abs w64 z (omega (arith, h)))

module _ (p w : ℤ) (w_is : w ≡ p) (h : unsigned_abs p ≤ 2 ^ 31) where
  squared_small : unsigned_abs (p *ℤ p) ≤ 2 ^ 62
  squared_small = omega (arith, unsigned_abs-mul p p, mul-le-mul_left (unsigned_abs p) h)

  squared_fits : FitsSigned w64 (p *ℤ p)
  squared_fits = fits_signed_mul w64 p p (2 ^ 31) (2 ^ 31) h h (omega arith)

  squared_is : through w *ℤ through w ≡ p *ℤ p
  squared_is = ap (λ (z : ℤ). through z *ℤ through z) w_is ∙ ap (λ (z : ℤ). z *ℤ z) (back p h)

  squared_back : through (through w *ℤ through w) ≡ p *ℤ p
  squared_back = ap through squared_is ∙ to_z-of_z w64 (p *ℤ p) squared_fits

penalty_small : (p : ℤ) → FitsSigned w32 p → unsigned_abs p ≤ 2 ^ 31
penalty_small p fits = omega (arith, ints)

pub overflow_mul-wide : goal.overflow_mul-wide
overflow_mul-wide c =
    let p = c.args.penalty in
    let w_is = c.from-wide.ensures ∙ to_z-of_z w32 p c.ranges.penalty in
    let h = penalty_small p c.ranges.penalty in
    subst (FitsSigned w64) (sym (squared_is p c.from-wide.result w_is h)) (squared_fits p c.from-wide.result w_is h)

pub returns-clause-value : goal.returns-clause-value
returns-clause-value c =
    let p = c.args.penalty in
    to_z-of_z w128 c.from.result (record { sfits = c.from.type_inv }) ∙ c.from.ensures
    ∙ squared_back p c.from-wide.result (c.from-wide.ensures ∙ to_z-of_z w32 p c.ranges.penalty) (penalty_small p c.ranges.penalty)

pub returns-clause-small : goal.returns-clause-small
returns-clause-small c =
    let p = c.args.penalty in
    let w_is = c.from-wide.ensures ∙ to_z-of_z w32 p c.ranges.penalty in
    let h = penalty_small p c.ranges.penalty in
    subst (λ (z : ℤ). unsigned_abs z ≤ 2 ^ 62)
    (sym (to_z-of_z w128 c.from.result (record { sfits = c.from.type_inv }) ∙ c.from.ensures ∙ squared_back p c.from-wide.result w_is h))
    (squared_small p c.from-wide.result w_is h)
