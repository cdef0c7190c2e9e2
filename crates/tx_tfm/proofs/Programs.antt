-- One step of a lig/kern program.
use Rattle.std.proofs.Common.{◌≡◌, ◌≢◌, ℕ, zero, suc, ◌+◌, ◌-◌, ◌<◌, ◌≤◌, true, false, cond, ltb, eqb, Some, None, refl, arith}
use Rattle.std.proofs.lemmas.Bool.Decides.{nat_tests}
use Rattle.tx_tfm.specs.declared.file.Tfm.{Tfm}
use Rattle.tx_tfm.specs.declared.file.Word.{Word}
use Rattle.tx_tfm.specs.Format.{info_of, tag}
use Rattle.tx_tfm.specs.LigKern.{command_at, found}
use Rattle.tx_tfm.specs.Rules.{successors_end}

found-step : (t : Tfm) (n k r : ℕ) (w : Word) → w ≡ command_at t k → 0 < n → found t n k r ≡ cond (ltb 128 w.a) None (cond (eqb w.b r) (Some w) (cond (eqb w.a 128) None (found t (n - 1) (k + w.a + 1) r)))
unfolding found
found-step t zero k r w e h = absurd (omega arith)
found-step t (suc n) k r w e h = let less : suc n - 1 ≡ n = omega arith in rw (less, e) refl

pub found-halt : (t : Tfm) (n k r : ℕ) (w : Word) → w ≡ command_at t k → 0 < n → 128 < w.a → found t n k r ≡ None
found-halt t n k r w e h halt = let step = found-step t n k r w e h in grind (arith, nat_tests)

pub found-here : (t : Tfm) (n k r : ℕ) (w : Word) → w ≡ command_at t k → 0 < n → w.a ≤ 128 → w.b ≡ r → found t n k r ≡ Some w
found-here t n k r w e h low same = let step = found-step t n k r w e h in grind (arith, nat_tests)

pub found-last : (t : Tfm) (n k r : ℕ) (w : Word) → w ≡ command_at t k → 0 < n → w.b ≢ r → w.a ≡ 128 → found t n k r ≡ None
found-last t n k r w e h other last = let step = found-step t n k r w e h in grind (arith, nat_tests)

pub found-later : (t : Tfm) (n k r j : ℕ) (w : Word) → w ≡ command_at t k → 0 < n → w.a ≤ 128 → w.b ≢ r → w.a ≢ 128 → j ≡ k + w.a + 1 → found t n k r ≡ found t (n - 1) j r
found-later t n k r j w e h low other on to = let step = found-step t n k r w e h in grind (arith, nat_tests)

pub found-none : (t : Tfm) (k r : ℕ) → found t 0 k r ≡ None
unfolding found
found-none t k r = refl

-- one step along the successors of a character
pub successors-over : (t : Tfm) (n code : ℕ) (w : Word) → w ≡ info_of t code → 0 < n → tag w ≢ 2 → successors_end t n code ≡ true
unfolding successors_end
successors-over t zero code w e h other = absurd (omega arith)
successors-over t (suc n) code w e h other = rw (← e) (grind (arith, nat_tests))

pub successors-on : (t : Tfm) (n code next : ℕ) (w : Word) → w ≡ info_of t code → 0 < n → tag w ≡ 2 → next ≡ w.d → successors_end t n code ≡ successors_end t (n - 1) next
unfolding successors_end
successors-on t zero code next w e h same to = absurd (omega arith)
successors-on t (suc n) code next w e h same to = let less : suc n - 1 ≡ n = omega arith in rw (← e, less, same, to) refl

pub successors-none : (t : Tfm) (code : ℕ) → successors_end t 0 code ≡ false
unfolding successors_end
successors-none t code = refl
