-- The size at which a font is used.
use Rattle.std.proofs.Common.{◌≡◌, ◌==◌, ℕ, ◌<◌, ◌≤◌, ◌^◌, ℤ, pos, negsuc, Bool, true, false, ◌&&◌, refl, sym, ◌∙◌, arith}
use Rattle.std.proofs.lemmas.Bool.{eqb-true, lt-ltb, true≢false}
use Rattle.tx_tfm.specs.Metrics.{is_number}
use Rattle.tx_tfm.specs.Rules.{is_size}

-- a size that is out of range isn't that of a font
pub not_used : (n : ℕ) (z : ℤ) → 1 ≤ n → n < 2 ^ 27 → is_size z ≡ false → is_number n z ≡ false
not_used n (negsuc k) some small out = refl
not_used n (pos k) some small out = by (k == n) refl
  where
    by : (b : Bool) → (k == n) ≡ b → b ≡ false
    by false e = refl
    by true e =
        let same : k ≡ n = eqb-true k n e in
        let within : is_size (pos k) ≡ true = λ i. lt-ltb 0 k (omega (arith, same, some)) i && lt-ltb k (2 ^ 27) (omega (arith, same, small)) i in
        absurd (true≢false (sym within ∙ out))
