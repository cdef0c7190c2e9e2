use Rattle.std.proofs.Common.{◌≡◌, ℕ, ℤ, suc, ◌+◌, List, [], ◌∷◌, ◌++◌, of_z, to_z, w32, w64, refl, ap, subst, ◌∙◌, arith, rules}
use Rattle.tx_tfm.specs.declared.metrics.Metrics.{Metrics}
use Rattle.tx_tfm.specs.Metrics.{parameter_of}
use Rattle.tx_tfm.specs.Parameters.{first_parameters}
use Rattle.tx_tfm.proofs.parameters.values_of.Goals as goal

-- one parameter more
one-more : (m : Metrics) (n k : ℕ) (value : ℤ) (values : List ℤ) → k ≡ n + 1 → values ≡ first_parameters m n → value ≡ parameter_of m k → values ++ value ∷ [] ≡ first_parameters m k
one-more m n k value values is first value_is =
    let next : suc n ≡ k = omega arith in
    (λ i. first i ++ value_is i ∷ []) ∙ subst (λ (j : ℕ). first_parameters m n ++ parameter_of m j ∷ [] ≡ first_parameters m j) next refl

pub loop-n-preserved : goal.loop-n-preserved
loop-n-preserved c =
    let same : to_z w32 (of_z w32 (to_z w64 (of_z w64 c.parameter.result))) ≡ c.parameter.result = search rules in (
      c.in_ok-push.ensures.items
          ∙ one-more c.args.font.now c.loop-n.n (c.loop-n.n + 1) (to_z w32 (of_z w32 (to_z w64 (of_z w64 c.parameter.result)))) c.loop-n.values.items refl c.loop-n.invariant.0 (same ∙ c.parameter.ensures.value),
      omega arith,
    )
