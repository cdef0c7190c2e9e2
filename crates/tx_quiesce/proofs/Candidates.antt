-- The next place where an offset stands, found by halving where no offset is less than the one before.
use Rattle.std.proofs.Common.{◌≡◌, ◌≢◌, ℕ, zero, suc, ◌+◌, ◌<◌, ◌≤◌, Bool, true, false, cond, List, [], ◌∷◌, drop, length, slice_index_or, nat_eq, refl, sym, ap, ◌∙◌, arith}
use Rattle.std.proofs.lemmas.Bool.{eqb-true, eq-eqb}
use Rattle.tx_checkpoint.specs.declared.row.Row.{Row}
use Rattle.tx_quiesce.specs.Tails.{innermost_offset, offsets_of, unequal, IsNextEqual}

pub differ : (a b : ℕ) → a ≢ b → nat_eq a b ≡ false
differ a b apart = by (nat_eq a b) refl
  where
    by : (c : Bool) → nat_eq a b ≡ c → c ≡ false
    by true is = absurd (apart (eqb-true a b is))
    by false is = refl

module _ (origin : ℕ) where
  -- the first place at which it stands is the one up to which all are passed by
  unequal_to : (from at : ℕ) (xs : List ℕ) → from ≤ at → at ≤ length xs
      → ((k d : ℕ) → from ≤ k → k < at → slice_index_or xs k d ≢ origin)
      → ((d : ℕ) → at < length xs → slice_index_or xs at d ≡ origin)
      → at ≡ from + unequal origin (drop from xs)
  unequal_to zero zero [] past within before there =
      let none : unequal origin [] ≡ 0 = refl in
      omega (arith, none)
  unequal_to zero zero (x ∷ xs) past within before there =
      let none : unequal origin (x ∷ xs) ≡ 0 = ap (λ b. cond b 0 (1 + unequal origin xs)) (eq-eqb x origin (there 0 (omega arith))) in
      omega (arith, none)
  unequal_to zero (suc at) [] past within before there = absurd (omega arith)
  unequal_to zero (suc at) (x ∷ xs) past within before there =
      let rest : at ≡ 0 + unequal origin xs = unequal_to zero at xs (omega arith) (omega arith) (λ k d past below. before (suc k) d (omega arith) (omega arith)) (λ d below. there d (omega arith)) in
      let more : unequal origin (x ∷ xs) ≡ 1 + unequal origin xs = ap (λ b. cond b 0 (1 + unequal origin xs)) (differ x origin (before 0 0 (omega arith) (omega arith))) in
      omega (arith, rest, more)
  unequal_to (suc from) zero xs past within before there = absurd (omega arith)
  unequal_to (suc from) (suc at) [] past within before there = absurd (omega arith)
  unequal_to (suc from) (suc at) (x ∷ xs) past within before there =
      let rest : at ≡ from + unequal origin (drop from xs) = unequal_to from at xs (omega arith) (omega arith) (λ k d past below. before (suc k) d (omega arith) (omega arith)) (λ d below. there d (omega arith)) in
      omega (arith, rest)

  pub next-is : (from at : ℕ) (xs : List ℕ) → IsNextEqual xs from origin at → at ≡ from + unequal origin (drop from xs)
  next-is from at xs is = unequal_to from at xs is.past is.within is.before is.there

  -- the row at a place is one of these, or is passed by
  pub skip-here : {S : Type 0} (at : ℕ) (rows : List (Row S)) (row : Row S) → at < length rows → row ≡ slice_index_or rows at row → nat_eq (innermost_offset row.opens) origin ≡ true
      → unequal origin (drop at (offsets_of rows)) ≡ 0
  skip-here at [] row below is fits = absurd (omega arith)
  skip-here zero (x ∷ rows) row below is fits =
      ap (λ (r : Row _). cond (nat_eq (innermost_offset r.opens) origin) 0 (1 + unequal origin (offsets_of rows))) (sym is) ∙ ap (λ b. cond b 0 (1 + unequal origin (offsets_of rows))) fits
  skip-here (suc at) (x ∷ rows) row below is fits = skip-here at rows row (omega arith) is fits

  pub skip-on : {S : Type 0} (at : ℕ) (rows : List (Row S)) (row : Row S) → at < length rows → row ≡ slice_index_or rows at row → nat_eq (innermost_offset row.opens) origin ≡ false
      → unequal origin (drop at (offsets_of rows)) ≡ 1 + unequal origin (drop (suc at) (offsets_of rows))
  skip-on at [] row below is fits = absurd (omega arith)
  skip-on zero (x ∷ rows) row below is fits =
      ap (λ (r : Row _). cond (nat_eq (innermost_offset r.opens) origin) 0 (1 + unequal origin (offsets_of rows))) (sym is) ∙ ap (λ b. cond b 0 (1 + unequal origin (offsets_of rows))) fits
  skip-on (suc at) (x ∷ rows) row below is fits = skip-on at rows row (omega arith) is fits
