-- Lemmas on tables that are filled from their front.
use Rattle.std.proofs.Common.{◌≡◌, ℕ, ◌+◌, ◌<◌, List, [], ◌∷◌, ◌++◌, take, length, slice_set, map, sym, ap, ◌≤◌, ◌∙◌, arith, add-one}
use Rattle.std.proofs.lemmas.List.{take_more_set, map-append, take_all}
use Rattle.tx_char.specs.declared.category.Cat.{Cat}
use Rattle.tx_char.specs.Category.{initial_category, initial_codes, numbers_below}

-- the values at one more number
map-numbers_below-more : (f : ℕ → Cat) (n : ℕ) → map f (numbers_below (n + 1)) ≡ map f (numbers_below n) ++ f n ∷ []
unfolding numbers_below
map-numbers_below-more f n = rw add-one (map-append f (numbers_below n) (n ∷ []))

-- one more category is written
pub take-more-written : (f : ℕ → Cat) (xs : List Cat) (n : ℕ) (x : Cat) → x ≡ f n → n < length xs → take n xs ≡ map f (numbers_below n) → take (n + 1) (slice_set xs n x) ≡ map f (numbers_below (n + 1))
take-more-written f xs n x is within before =
    let now : take (n + 1) (slice_set xs n x) ≡ take n xs ++ x ∷ [] = take_more_set xs n x within in
    let wanted : map f (numbers_below (n + 1)) ≡ map f (numbers_below n) ++ f n ∷ [] = map-numbers_below-more f n in
    cc

-- all 256 are written
pub all_written : (xs : List Cat) (n : ℕ) → length xs ≡ 256 → 256 ≤ n → n ≤ 256 → take n xs ≡ map initial_category (numbers_below n) → xs ≡ initial_codes
unfolding initial_codes
all_written xs n whole least most before =
    let is : n ≡ 256 = omega arith in
    let wanted : map initial_category (numbers_below n) ≡ map initial_category (numbers_below 256) = ap (λ k. map initial_category (numbers_below k)) is in
    let all : take n xs ≡ xs = take_all n xs (omega arith) in
    sym all ∙ before ∙ wanted
