-- The innermost test, found from the inside, and the conditionals within it.
use Rattle.std.proofs.Common.{◌≡◌, ℕ, zero, suc, ◌+◌, ◌<◌, ◌≤◌, true, false, ℤ, List, [], ◌∷◌, ◌++◌, length, take, drop, get_or, set, None, Some, refl, sym, ◌∙◌, ap, arith, add-one, drop-cons}
use Rattle.std.specs.Prelude.{slice_get}
use Rattle.std.proofs.Math.Seq.{take-suc}
use Rattle.std.proofs.lemmas.List.{take-set, drop-set}
use Rattle.tx_cond.specs.declared.types.Conditional.{Conditional}
use Rattle.tx_cond.specs.declared.types.Conditional.TheVariants.{Testing, AwaitingOr, AwaitingElse, Live, Ending, LastBranch}
use Rattle.tx_cond.specs.Conditionals.{is_test, begins_with_test, is_skipped, within, within_all, decide}

pub decide-inner : (branch : ℤ) (c : Conditional) (outer : List Conditional) → is_test c ≡ false → decide branch (c ∷ outer) ≡ within c (decide branch outer)
decide-inner branch (Testing cases) outer h = cc
decide-inner branch (AwaitingOr others) outer h = refl
decide-inner branch (AwaitingElse cases) outer h = refl
decide-inner branch (Live cases) outer h = refl
decide-inner branch Ending outer h = refl
decide-inner branch LastBranch outer h = refl

pub within_all-push : (xs : List Conditional) (c : Conditional) (outer : List Conditional) → within_all (xs ++ c ∷ []) outer ≡ within_all xs (within c outer)
within_all-push [] c outer = refl
within_all-push (x ∷ xs) c outer = ap (within x) (within_all-push xs c outer)

-- the step of the search for the innermost test
pub search-on : (branch : ℤ) (xs : List Conditional) (place : ℕ) → place < length xs → begins_with_test (drop place xs) ≡ false → decide branch xs ≡ within_all (take place xs) (decide branch (drop place xs)) → decide branch xs ≡ within_all (take (place + 1) xs) (decide branch (drop (place + 1) xs))
search-on branch xs place i e h =
    let c = get_or xs place Ending in
    let here : drop place xs ≡ c ∷ drop (suc place) xs = drop-cons xs place Ending i in
    h
    ∙ ap (λ (ys : List Conditional). within_all (take place xs) (decide branch ys)) here
    ∙ ap (within_all (take place xs)) (decide-inner branch c (drop (suc place) xs) (sym (ap begins_with_test here) ∙ e))
    ∙ sym (within_all-push (take place xs) c (decide branch (drop (suc place) xs)))
    ∙ rw (add-one, take-suc xs place Ending) refl

-- the conditionals from a place on, by the one that stands there
pub drop-at : (xs : List Conditional) (i : ℕ) (c : Conditional) → slice_get xs i ≡ Some c → drop i xs ≡ c ∷ drop (suc i) xs
drop-at [] i c is = cc
drop-at (x ∷ xs) zero c is = cc
drop-at (x ∷ xs) (suc i) c is = drop-at xs i c is

pub drop-past : (xs : List Conditional) (i : ℕ) → slice_get xs i ≡ None → drop i xs ≡ []
drop-past [] zero is = refl
drop-past [] (suc i) is = refl
drop-past (x ∷ xs) zero is = cc
drop-past (x ∷ xs) (suc i) is = drop-past xs i is

pub place-within : (xs : List Conditional) (i : ℕ) (c : Conditional) → slice_get xs i ≡ Some c → i < length xs
place-within [] i c is = cc
place-within (x ∷ xs) zero c is = omega arith
place-within (x ∷ xs) (suc i) c is = omega (arith, place-within xs i c is)

within-next : (xs : List Conditional) (k : ℕ) (d : Conditional) → k < length xs → within_all (take (k + 1) xs) (drop (k + 1) xs) ≡ within_all (take k xs) (within (get_or xs k d) (drop (k + 1) xs))
within-next xs k d l = rw (add-one, take-suc xs k d) (within_all-push (take k xs) (get_or xs k d) (drop (suc k) xs))

pass-skipped-suc : (xs : List Conditional) (k : ℕ) → k < length xs → is_skipped (drop (k + 1) xs) ≡ true → within_all (take k (set xs k Ending)) (drop k (set xs k Ending)) ≡ within_all (take (k + 1) xs) (drop (k + 1) xs)
pass-skipped-suc xs k l e =
    rw (take-set xs k Ending, drop-set xs k Ending)
    (sym (within-next xs k Ending l ∙ rw e refl))

-- the step that passes over one more conditional, and the one that leaves it
pub pass-skipped : (xs : List Conditional) (k i : ℕ) → i ≡ k + 1 → i ≤ length xs → is_skipped (drop i xs) ≡ true → within_all (take k (set xs k Ending)) (drop k (set xs k Ending)) ≡ within_all (take i xs) (drop i xs)
pass-skipped xs k i is l e = rw is (pass-skipped-suc xs k (omega (arith, is, l)) (rw is at e))

pass-live-suc : (xs : List Conditional) (k : ℕ) → k < length xs → is_skipped (drop (k + 1) xs) ≡ false → within_all (take k xs) (drop k xs) ≡ within_all (take (k + 1) xs) (drop (k + 1) xs)
pass-live-suc xs k l e =
    rw (drop-cons xs k Ending, ← add-one)
    (sym (within-next xs k Ending l ∙ rw e refl))

pub pass-live : (xs : List Conditional) (k i : ℕ) → i ≡ k + 1 → i ≤ length xs → is_skipped (drop i xs) ≡ false → within_all (take k xs) (drop k xs) ≡ within_all (take i xs) (drop i xs)
pass-live xs k i is l e = rw is (pass-live-suc xs k (omega (arith, is, l)) (rw is at e))

-- at the place of a test no other conditional stands
stands-test : (xs : List Conditional) (place : ℕ) (c : Conditional) → slice_get xs place ≡ Some c → begins_with_test (drop place xs) ≡ true → is_test c ≡ true
stands-test xs place c is test = sym (ap begins_with_test (drop-at xs place c is)) ∙ test

-- the test at a place has its value
pub settles : (branch : ℤ) (xs : List Conditional) (place : ℕ) (c v : Conditional) → slice_get xs place ≡ Some c → begins_with_test (drop place xs) ≡ true → (is_test c ≡ true → (outer : List Conditional) → decide branch (c ∷ outer) ≡ v ∷ outer) → drop place (set xs place v) ≡ decide branch (drop place xs)
settles branch xs place c v is test k =
    let one : place + 1 ≡ suc place = omega arith in
    drop-set xs place v (place-within xs place c is)
    ∙ ap (λ (n : ℕ). v ∷ drop n xs) one
    ∙ sym (ap (decide branch) (drop-at xs place c is) ∙ k (stands-test xs place c is test) (drop (suc place) xs))

pub settles-none : (branch : ℤ) (xs : List Conditional) (place : ℕ) → slice_get xs place ≡ None → drop place xs ≡ decide branch (drop place xs)
settles-none branch xs place is =
    let none : drop place xs ≡ [] = drop-past xs place is in
    none ∙ sym (ap (decide branch) none)
