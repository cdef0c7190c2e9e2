-- The numbers of a range that pass a test, taken in turn.
use Rattle.std.proofs.Common.{◌≡◌, ℕ, ◌+◌, ◌-◌, ◌≤◌, ◌<◌, Bool, true, false, List, [], ◌∷◌, ◌++◌, filter, arith, refl, sym, ◌∙◌, ap, append_assoc, get_or, ◌≢◌, eq-eqb}
use Rattle.std.proofs.lemmas.Bool.{ne_eqb}
use Rattle.std.specs.Prelude.{suc, zero, ◌%◌, ◌==◌}
use Rattle.std.specs.List.{between, range_with_len}
use Rattle.std.proofs.Common.{add_comm, length, length-append}
use Rattle.std.proofs.lemmas.List.{get_or-drop}
use Rattle.std.proofs.lemmas.Slice.{between_to_end}
use Rattle.tx_hyphen.specs.declared.spelling.Spelling.{Spelling}
use Rattle.tx_hyphen.specs.Levels.{level_in}
use Rattle.tx_hyphen.specs.Points.{edged}

range-more : (a e : ℕ) → a < e → range_with_len a (e - a) ≡ a ∷ range_with_len (a + 1) (e - (a + 1))
range-more a e h =
    let n_is : e - a ≡ suc (e - (a + 1)) = omega arith in rw n_is refl

filter-taken : (p : ℕ → Bool) (taken : List ℕ) (a e : ℕ) → a < e → p a ≡ true
    → taken ++ filter p (range_with_len a (e - a)) ≡ (taken ++ a ∷ []) ++ filter p (range_with_len (a + 1) (e - (a + 1)))
filter-taken p taken a e h pass = rw (range-more a e h, pass, append_assoc) refl

filter-passed : (p : ℕ → Bool) (taken : List ℕ) (a e : ℕ) → a < e → p a ≡ false
    → taken ++ filter p (range_with_len a (e - a)) ≡ taken ++ filter p (range_with_len (a + 1) (e - (a + 1)))
filter-passed p taken a e h fail = rw (range-more a e h, fail) refl

-- the test of an odd level at a place
abbrev pub is_odd_at : List ℕ → ℕ → Bool
is_odd_at levels place = get_or levels place 0 % 2 == 1

-- a place with an odd level is taken
pub odd-taken : (levels taken more whole : List ℕ) (a e level : ℕ)
    → a < e → level ≡ get_or levels a 0 → level % 2 ≡ 1 → more ≡ taken ++ a ∷ []
    → taken ++ filter (is_odd_at levels) (range_with_len a (e - a)) ≡ whole
    → more ++ filter (is_odd_at levels) (range_with_len (a + 1) (e - (a + 1))) ≡ whole
odd-taken levels taken more whole a e level h is odd more_is so_far =
    rw more_is
    (sym (filter-taken (is_odd_at levels) taken a e h (eq-eqb _ 1 (rw (← is) odd))) ∙ so_far)

-- a place with an even level is not
pub even-passed : (levels taken more whole : List ℕ) (a e level : ℕ)
    → a < e → level ≡ get_or levels a 0 → level % 2 ≢ 1 → more ≡ taken
    → taken ++ filter (is_odd_at levels) (range_with_len a (e - a)) ≡ whole
    → more ++ filter (is_odd_at levels) (range_with_len (a + 1) (e - (a + 1))) ≡ whole
even-passed levels taken more whole a e level h is even more_is so_far =
    rw more_is
    (sym (filter-passed (is_odd_at levels) taken a e h (ne_eqb _ 1 (rw (← is) even))) ∙ so_far)

-- two levels that agree on a range have the same odd places there
pub odd-agree : (f g : ℕ → ℕ) (a n : ℕ) → ((k : ℕ) → a ≤ k → k < a + n → f k ≡ g k)
    → filter (λ k. f k % 2 == 1) (range_with_len a n) ≡ filter (λ k. g k % 2 == 1) (range_with_len a n)
odd-agree f g a zero same = refl
odd-agree f g a (suc n) same =
    let here = same a (omega arith) (omega arith) in
    let rest = odd-agree f g (a + 1) n (λ k h h'. same k (omega arith) (omega arith)) in
    rw (here, rest) refl

-- the odd places of a word are those of the levels of the text with its edges, which has one more character before each
pub odd-places-inside : (patterns : List Spelling) (letters levels : List ℕ) (first end : ℕ)
    → end ≤ length letters → length levels ≡ length (edged letters)
    → ((k : ℕ) → k < length levels → get_or levels k 0 ≡ level_in patterns (edged letters) k)
    → filter (is_odd_at (between 1 (length levels) levels)) (range_with_len first (end - first))
    ≡ filter (λ place. level_in patterns (edged letters) (place + 1) % 2 == 1) (range_with_len first (end - first))
odd-places-inside patterns letters levels first end within same given =
    let whole = between_to_end levels 1 (length levels) (omega arith) in
    rw whole
    (odd-agree _ (λ place. level_in patterns (edged letters) (place + 1)) first (end - first)
    (λ k h h'. rw (get_or-drop 1 levels k 0, add_comm 1 k)
    (given (k + 1) (omega (arith, length-append letters (0 ∷ []))))))

-- the same where the text and its levels are lent
pub odd-places-lent : (patterns : List Spelling) (letters text levels lent : List ℕ) (first end : ℕ)
    → end ≤ length letters → text ≡ edged letters → lent ≡ levels → length levels ≡ length text
    → ((k : ℕ) → k < length levels → get_or levels k 0 ≡ level_in patterns text k)
    → filter (is_odd_at (between 1 (length lent) lent)) (range_with_len first (end - first))
    ≡ filter (λ place. level_in patterns (edged letters) (place + 1) % 2 == 1) (range_with_len first (end - first))
odd-places-lent patterns letters text levels lent first end within text_is lent_is same given =
    rw lent_is
    (odd-places-inside patterns letters levels first end within (same ∙ ap length text_is) (rw text_is at given))
