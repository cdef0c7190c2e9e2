-- Lists that are filled one by one.
use Rattle.std.proofs.Common.{◌≡◌, ℕ, ◌+◌, [], ◌∷◌, ◌++◌, map, refl, add-one}
use Rattle.std.proofs.lemmas.List.{map-append}
use Rattle.tx_char.specs.Category.{numbers_below}

-- the values at one more number
pub one-number-more : {A : Type 0} (f : ℕ → A) (n : ℕ) → map f (numbers_below (n + 1)) ≡ map f (numbers_below n) ++ f n ∷ []
unfolding numbers_below
one-number-more f n = rw add-one (map-append f (numbers_below n) (n ∷ []))

-- no number is below 0
pub no-numbers : {A : Type 0} (f : ℕ → A) → map f (numbers_below 0) ≡ []
unfolding numbers_below
no-numbers f = refl

pub ruleset filled_steps = (one-number-more, no-numbers)
