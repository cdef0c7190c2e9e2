-- Lists that are filled one by one.
use Rattle.std.proofs.Common.{◌≡◌, ℕ, zero, suc, ◌+◌, ◌<◌, List, [], ◌∷◌, ◌++◌, length, drop, map, get_or, refl, arith, add-one}
use Rattle.std.proofs.lemmas.List.{map-append}
use Rattle.tx_char.specs.Category.{numbers_below}

-- the values at one more number
pub one-number-more : {A : Type 0} (f : ℕ → A) (n : ℕ) → map f (numbers_below (n + 1)) ≡ map f (numbers_below n) ++ f n ∷ []
unfolding numbers_below
one-number-more f n = rw add-one (map-append f (numbers_below n) (n ∷ []))

-- no number is below 0
pub no-numbers : {A : Type 0} (f : ℕ → A) → map f (numbers_below 0) ≡ []
unfolding numbers_below
no-numbers f = refl

-- the elements from one place on are the one there and those behind it
pub drop-one : {A : Type 0} (xs : List A) (at : ℕ) (d : A) → at < length xs → drop at xs ≡ get_or xs at d ∷ drop (suc at) xs
drop-one [] at d within = absurd (omega (arith, within))
drop-one (x ∷ xs) zero d within = refl
drop-one (x ∷ xs) (suc at) d within = drop-one xs at d (omega (arith, within))

pub ruleset filled_steps = (one-number-more, no-numbers, drop-one)
