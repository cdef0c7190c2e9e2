-- A test of each number below another, one at a time.
use Rattle.std.proofs.Common.{◌≡◌, ℕ, zero, suc, ◌+◌, ◌<◌, Bool, true, false, ◌&&◌, refl, add-one, arith, inl, inr}
use Rattle.std.proofs.lemmas.Bool.{cases_lt}
use Rattle.tx_tfm.specs.Rules.{every}

and-false : (b : Bool) → (b && false) ≡ false
and-false true = refl
and-false false = refl

pub every-none : (test : ℕ → Bool) → every 0 test ≡ true
unfolding every
every-none test = refl

pub every-more : (k : ℕ) (test : ℕ → Bool) → every k test ≡ true → test k ≡ true → every (k + 1) test ≡ true
unfolding every
every-more k test h here = rw (add-one, h, here) refl

pub every-fails : (n k : ℕ) (test : ℕ → Bool) → k < n → test k ≡ false → every n test ≡ false
unfolding every
every-fails zero k test h e = absurd (omega arith)
every-fails (suc n) k test h e = elim (cases_lt k n) [ inl less ↦ rw (every-fails n k test less e) refl | inr more ↦ last n (omega arith) ]
  where
    last : (m : ℕ) → m ≡ k → (every m test && test m) ≡ false
    last m same = rw (same, e) (and-false (every k test))

pub every-all : (n : ℕ) (test : ℕ → Bool) → ((k : ℕ) → k < n → test k ≡ true) → every n test ≡ true
unfolding every
every-all zero test h = refl
every-all (suc n) test h = rw (every-all n test (λ k less. h k (omega arith)), h n (omega arith)) refl

pub ruleset every_steps = (every-none, every-more, every-fails)
