-- The parameters of a font, one more and one changed.
use Rattle.std.proofs.Common.{◌≡◌, ℕ, zero, suc, ◌+◌, ◌-◌, ◌<◌, ◌≤◌, ℤ, pos, List, [], ◌∷◌, ◌++◌, length, replicate, sym, ap, ◌∙◌, append_assoc, arith}
use Rattle.std.specs.Prelude.{slice_set}
use Rattle.std.proofs.lemmas.List.{append-nil, length-append, length-replicate}
use Rattle.tx_tfm.specs.declared.metrics.Metrics.{Metrics}
use Rattle.tx_tfm.specs.Metrics.{parameter_of}
use Rattle.tx_tfm.specs.Parameters.{first_parameters, lengthened, with_value}

-- one more of a file
pub first_more : (m : Metrics) (n : ℕ) → first_parameters m (n + 1) ≡ first_parameters m n ++ parameter_of m (n + 1) ∷ []
first_more m n = let on : n + 1 ≡ suc n = omega arith in (λ i. first_parameters m (on i)) ∙ (λ i. first_parameters m n ++ parameter_of m (sym on i) ∷ [])

-- one zero more is one less to come
pub zero_more : (parameters : List ℤ) (n : ℕ) → 0 < n → (parameters ++ pos 0 ∷ []) ++ replicate (n - 1) (pos 0) ≡ parameters ++ replicate n (pos 0)
zero_more parameters zero h = absurd (omega (arith, h))
zero_more parameters (suc n) h =
    let less : suc n - 1 ≡ n = omega arith in
    append_assoc parameters (pos 0 ∷ []) (replicate (suc n - 1) (pos 0)) ∙ ap (λ (k : ℕ). parameters ++ pos 0 ∷ replicate k (pos 0)) less

-- where none is to come, that is all
pub zeros_over : (parameters : List ℤ) (n : ℕ) → n ≤ 0 → parameters ++ replicate n (pos 0) ≡ parameters
zeros_over parameters zero h = append-nil parameters
zeros_over parameters (suc n) h = absurd (omega (arith, h))

-- a parameter is set in a list that is long enough
pub set_is : (n : ℕ) (value : ℤ) (parameters : List ℤ) → 0 < n → slice_set (lengthened n parameters) (n - 1) value ≡ with_value n value parameters
set_is zero value parameters h = absurd (omega (arith, h))
set_is (suc n) value parameters h = let less : suc n - 1 ≡ n = omega arith in ap (λ (k : ℕ). slice_set (lengthened (suc n) parameters) k value) less

pub unset_is : (n : ℕ) (value : ℤ) (parameters : List ℤ) → n ≤ 0 → lengthened n parameters ≡ with_value n value parameters
unset_is zero value parameters h = let none : 0 - length parameters ≤ 0 = omega arith in zeros_over parameters (0 - length parameters) none
unset_is (suc n) value parameters h = absurd (omega (arith, h))

pub long_enough : (n : ℕ) (parameters : List ℤ) → n ≤ length (lengthened n parameters)
long_enough n parameters =
    let sum = length-append parameters (replicate (n - length parameters) (pos 0)) in
    let zeros = length-replicate (n - length parameters) (pos 0) in
    omega (arith, sum, zeros)

pub ruleset listed_steps = (first_more, zero_more, zeros_over, set_is, unset_is, long_enough)
