-- What a font says of its characters, one more at a time.
use Rattle.std.proofs.Common.{◌≡◌, ℕ, ◌+◌, ◌<◌, List, [], ◌∷◌, ◌++◌, length, get_or, sym, subst, arith, inl, inr}
use Rattle.std.proofs.lemmas.Bool.{cases_lt}
use Rattle.std.proofs.lemmas.List.{get_or_append_left, get_or_push}
use Rattle.tx_tfm.specs.declared.characters.CharacterMetrics.{CharacterMetrics}
use Rattle.tx_tfm.specs.declared.metrics.Metrics.{Metrics}
use Rattle.tx_tfm.specs.Characters.{IsSaid, unsaid}

pub said-more : (m : Metrics) (kept : List CharacterMetrics) (n code : ℕ) (c : CharacterMetrics) → length kept ≡ n → ((k : ℕ) → k < n → IsSaid m k (get_or kept k unsaid)) → IsSaid m code c → code ≡ n
    → (k : ℕ) → k < n + 1 → IsSaid m k (get_or (kept ++ c ∷ []) k unsaid)
said-more m kept n code c long so_far here same k within =
    elim (cases_lt k n) [
      | inl less ↦ subst (IsSaid m k) (sym (get_or_append_left kept (c ∷ []) unsaid k (omega (arith, long, less)))) (so_far k less)
      | inr more ↦
          let last : code ≡ k = omega (arith, same, more, within) in
          let at : length kept ≡ k = omega (arith, long, more, within) in
          subst (IsSaid m k) (sym (get_or_push kept c unsaid k at)) (subst (λ (j : ℕ). IsSaid m j c) last here)
    ]
