use Rattle.std.proofs.Common.{◌≡◌, ◌≤◌, ◌<◌, ◌^◌, ap, ◌∙◌, add-one, arith, ℕ}
use Rattle.std.proofs.lemmas.Str.{digit_value_digit}
use Rattle.std.proofs.lemmas.Str.Parse.{digit_at}
use Rattle.std.proofs.lemmas.Int.Digits.{digits_value_more}
use Rattle.std.proofs.Math.Nat.{pow-suc, pow-le-pow_right}
use Rattle.tx_num.proofs.decimal.parts.Goals as goal

-- seventeen digits are below 10^17
bounded : (scale i n : ℕ) → scale ≡ 10 ^ i → i < n → n ≤ 17 → scale ≤ 10 ^ 16
bounded scale i n e p q = omega (arith, e, pow-le-pow_right {n = 10} (omega arith) {i = i} {j = 16} (omega arith))

pub overflow_mul-number : goal.overflow_mul-number
overflow_mul-number c = omega (arith, bounded _ _ _ c.loop-digit.invariant.1 (omega arith) c.requires.few)

pub overflow_sub-digit : goal.overflow_sub-digit
overflow_sub-digit c = omega (arith, digit_at c.args.digits.now c.loop-digit.digit-index c.requires.digits_in (omega arith))

pub overflow_add-number : goal.overflow_add-number
overflow_add-number c = omega (arith, bounded _ _ _ c.loop-digit.invariant.1 (omega arith) c.requires.few)

pub overflow_mul-scale : goal.overflow_mul-scale
overflow_mul-scale c = omega (arith, bounded _ _ _ c.loop-digit.invariant.1 (omega arith) c.requires.few)

pub loop-digit-preserved : goal.loop-digit-preserved
loop-digit-preserved c =
    let more = digits_value_more 10 c.args.digits.now c.loop-digit.digit-index (omega arith) in
    let digit = digit_at c.args.digits.now c.loop-digit.digit-index c.requires.digits_in (omega arith) in
    let value = digit_value_digit _ digit in
    let power = ap (λ k. 10 ^ k) (add-one c.loop-digit.digit-index) ∙ pow-suc 10 c.loop-digit.digit-index in
    (omega arith, omega (arith, power), omega arith)
