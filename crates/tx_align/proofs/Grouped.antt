-- What is put, entry by entry, to those that end in the same column, are the entries that end in each.
use Rattle.std.proofs.Common.{◌≡◌, ◌⊎◌, ◌∙◌, ◌+◌, ◌-◌, ◌<◌, ◌≤◌, ℕ, zero, suc, inl, inr, Bool, true, false, cond, List, [], ◌∷◌, ◌++◌, length, fold, replicate, set, get_or, refl, sym, ap, append_assoc, arith}
use Rattle.std.specs.Prelude.{◌&&◌, nat_lt, nat_le}
use Rattle.std.proofs.lemmas.Bool.{and_parts, and_cases, eq-eqb, leb-false, leb-true, ltb-false, ltb-true, ne_eqb}
use Rattle.std.proofs.lemmas.List.{append-nil}
use Rattle.std.proofs.lemmas.List.Elements.{filter-append}
use Rattle.tx_align.specs.declared.entry.Entry.{Entry}
use Rattle.tx_align.specs.Entries.{ends_in, ending_in, endings}
use Rattle.tx_align.specs.Grouping.{put}

-- one more entry, where it ends in a column and where it doesn't
with_it : (column : ℕ) (es : List Entry) (e : Entry) → e.end ≡ suc column → ending_in column es ++ e ∷ [] ≡ ending_in column (es ++ e ∷ [])
with_it column es e is =
    sym (filter-append (ends_in column) es (e ∷ []) ∙ ap (λ (b : Bool). ending_in column es ++ cond b (e ∷ []) []) (eq-eqb e.end (suc column) is))

without_it : (column : ℕ) (es : List Entry) (e : Entry) → (e.end ≡ suc column → ⊥) → ending_in column es ≡ ending_in column (es ++ e ∷ [])
without_it column es e isnt =
    sym (filter-append (ends_in column) es (e ∷ [])
    ∙ ap (λ (b : Bool). ending_in column es ++ cond b (e ∷ []) []) (ne_eqb e.end (suc column) isnt)
    ∙ append-nil (ending_in column es))

-- it ends before these columns, or behind them
before : (column n : ℕ) (es : List Entry) (e : Entry) → e.end ≤ column → endings column n es ≡ endings column n (es ++ e ∷ [])
before column zero es e h = refl
before column (suc n) es e h =
    λ i. without_it column es e (λ is. omega arith) i ∷ before (suc column) n es e (omega arith) i

behind : (column n : ℕ) (es : List Entry) (e : Entry) → column + n < e.end → endings column n es ≡ endings column n (es ++ e ∷ [])
behind column zero es e h = refl
behind column (suc n) es e h =
    λ i. without_it column es e (λ is. omega arith) i ∷ behind (suc column) n es e (omega arith) i

-- it ends in the one behind so many of them
inside : (column n k : ℕ) (es : List Entry) (e : Entry) → e.end ≡ suc (column + k) → k < n
    → set (endings column n es) k (get_or (endings column n es) k [] ++ e ∷ []) ≡ endings column n (es ++ e ∷ [])
inside column zero k es e is h = absurd (omega arith)
inside column (suc n) zero es e is h =
    λ i. with_it column es e (omega arith) i ∷ before (suc column) n es e (omega arith) i
inside column (suc n) (suc k) es e is h =
    λ i. without_it column es e (λ at. omega arith) i ∷ inside (suc column) n k es e (omega arith) (omega arith) i

endings-count : (column n : ℕ) (es : List Entry) → length (endings column n es) ≡ n
endings-count column zero es = refl
endings-count column (suc n) es = ap suc (endings-count (suc column) n es)

-- it ends in none of the columns
put-not : (n : ℕ) (es : List Entry) (e : Entry) → (nat_lt 0 e.end ≡ false) ⊎ (nat_le e.end (length (endings 0 n es)) ≡ false) → endings 0 n es ≡ endings 0 n (es ++ e ∷ [])
put-not n es e (inl none) = before 0 n es e (ltb-false 0 e.end none)
put-not n es e (inr many) =
    let more : length (endings 0 n es) < e.end = leb-false e.end (length (endings 0 n es)) many in
    let count : length (endings 0 n es) ≡ n = endings-count 0 n es in
    behind 0 n es e (omega arith)

put-by : (n : ℕ) (es : List Entry) (e : Entry) (b : Bool) → (nat_lt 0 e.end && nat_le e.end (length (endings 0 n es))) ≡ b
    → cond b (set (endings 0 n es) (e.end - 1) (get_or (endings 0 n es) (e.end - 1) [] ++ e ∷ [])) (endings 0 n es) ≡ endings 0 n (es ++ e ∷ [])
put-by n es e true tests =
    let both : (nat_lt 0 e.end ≡ true) × (nat_le e.end (length (endings 0 n es)) ≡ true) = and_parts (nat_lt 0 e.end) (nat_le e.end (length (endings 0 n es))) tests in
    let some : 0 < e.end = ltb-true 0 e.end both.0 in
    let few : e.end ≤ length (endings 0 n es) = leb-true e.end (length (endings 0 n es)) both.1 in
    let count : length (endings 0 n es) ≡ n = endings-count 0 n es in
    inside 0 n (e.end - 1) es e (omega arith) (omega arith)
put-by n es e false tests = put-not n es e (and_cases (nat_lt 0 e.end) (nat_le e.end (length (endings 0 n es))) tests)

one-put : (n : ℕ) (es : List Entry) (e : Entry) → put (endings 0 n es) e ≡ endings 0 n (es ++ e ∷ [])
one-put n es e = put-by n es e (nat_lt 0 e.end && nat_le e.end (length (endings 0 n es))) refl

more-put : (n : ℕ) (es more : List Entry) → fold put (endings 0 n es) more ≡ endings 0 n (es ++ more)
more-put n es [] = ap (endings 0 n) (sym (append-nil es))
more-put n es (e ∷ more) =
    ap (λ (groups : List (List Entry)). fold put groups more) (one-put n es e)
    ∙ more-put n (es ++ e ∷ []) more
    ∙ ap (endings 0 n) (append_assoc es (e ∷ []) more)

none-put : (column n : ℕ) → ◌≡◌ {A = List (List Entry)} (replicate n []) (endings column n [])
none-put column zero = refl
none-put column (suc n) = λ i. [] ∷ none-put (suc column) n i

-- one more empty list is one less to come
pub one_more_empty : (groups : List (List Entry)) (n : ℕ) → 0 < n → (groups ++ [] ∷ []) ++ replicate (n - 1) [] ≡ groups ++ replicate n []
one_more_empty groups zero h = absurd (omega (arith, h))
one_more_empty groups (suc n) h =
    let less : suc n - 1 ≡ n = omega arith in
    append_assoc groups ([] ∷ []) (replicate (suc n - 1) []) ∙ ap (λ (k : ℕ). groups ++ [] ∷ replicate k []) less

-- where none is to come, these are all
pub none_missing : (groups : List (List Entry)) (n : ℕ) → n ≤ 0 → groups ++ replicate n [] ≡ groups
none_missing groups zero h = append-nil groups
none_missing groups (suc n) h = absurd (omega (arith, h))

pub all_put : (count : ℕ) (entries : List Entry) → fold put (replicate count []) entries ≡ endings 0 count entries
all_put count entries =
    ap (λ (groups : List (List Entry)). fold put groups entries) (none-put 0 count) ∙ more-put count [] entries
