-- The old rows that were passed by aren't met, and the search goes on with the others.
use Rattle.std.proofs.Common.{◌≡◌, ℕ, zero, suc, ◌+◌, ◌-◌, ◌<◌, ◌≤◌, Bool, true, false, cond, not, ◌&&◌, ◌||◌, List, [], ◌∷◌, length, take, drop, length-drop, slice_index_or, Option, Some, None, refl, sym, ap, ◌∙◌, arith}
use Rattle.std.specs.List.{list_any}
use Rattle.std.proofs.lemmas.List.{length-map, take_all}
use Rattle.tx_files.specs.declared.edit.Change.{Change}
use Rattle.tx_machine.specs.Machine.{Formatter, IsLawful}
use Rattle.tx_checkpoint.specs.declared.row.Row.{Row}
use Rattle.tx_checkpoint.specs.declared.row.Last.{Last}
use Rattle.tx_checkpoint.specs.Meant.{row_meant, rows_meant}
use Rattle.tx_files.specs.Reads.{asks_for_any}
use Rattle.tx_quiesce.specs.Meeting.{opens_fit, row_fits, rest_asks_any, met}

-- how states are compared in code, as they are in the definition
same_is : {S : Type 0} {m : Formatter S} → IsLawful m → (a b : S) (r : Bool) → ((r ≡ true → a ≡ b) × (a ≡ b → r ≡ true)) → r ≡ m.same a b
same_is {m = m} lawful a b true tells = sym ((lawful.tells a b).1 (tells.0 refl))
same_is {m = m} lawful a b false tells = by (m.same a b) refl
  where
    by : (c : Bool) → m.same a b ≡ c → false ≡ c
    by true is = tells.1 ((lawful.tells a b).0 is)
    by false is = refl

pub fits-so : {S M : Type 0} {m : Formatter M} (lawful : IsLawful m) (meaning : S → M) (changes : List Change) (old new : Row S) (opens same : Bool) → opens ≡ opens_fit changes old.opens new.opens
    → ((same ≡ true → meaning new.state ≡ meaning old.state) × (meaning new.state ≡ meaning old.state → same ≡ true)) → (opens && same) ≡ row_fits m changes (row_meant meaning old) (row_meant meaning new)
fits-so lawful meaning changes old new opens same is tells = λ i. is i && same_is lawful (meaning new.state) (meaning old.state) same tells i

asks_meant : {S M : Type 0} (meaning : S → M) (rows : List (Row S)) (changes : List Change) → list_any (λ row. asks_for_any row.seen changes) (rows_meant meaning rows) ≡ list_any (λ row. asks_for_any row.seen changes) rows
asks_meant meaning [] changes = refl
asks_meant meaning (row ∷ rows) changes = ap (λ b. asks_for_any row.seen changes || b) (asks_meant meaning rows changes)

pub rest-meant : {S M : Type 0} (meaning : S → M) (rows : List (Row S)) (last : Last) (changes : List Change) → rest_asks_any (rows_meant meaning rows) last changes ≡ rest_asks_any rows last changes
rest-meant meaning rows last changes = ap (λ b. b || asks_for_any last.seen changes) (asks_meant meaning rows changes)

-- all elements from a place on
pub from-place : {X : Type 0} (xs : List X) (k : ℕ) → take (length xs - k) (drop k xs) ≡ drop k xs
from-place xs k = take_all (length xs - k) (drop k xs) (let left : length (drop k xs) ≡ length xs - k = length-drop k xs in omega arith)

module _ {S M : Type 0} (m : Formatter M) (meaning : S → M) (changes : List Change) (last : Last) (new : Row M) where
  -- the row at a place
  at_row : (number k : ℕ) (rows : List (Row S)) (row : Row S) → k < length rows → row ≡ slice_index_or rows k row
      → met m changes last new number (drop k (rows_meant meaning rows))
      ≡ cond (row_fits m changes (row_meant meaning row) new && not (rest_asks_any (drop (suc k) rows) last changes)) (Some number) (met m changes last new (number + 1) (drop (suc k) (rows_meant meaning rows)))
  at_row number k [] row below is = absurd (omega arith)
  at_row number zero (x ∷ rows) row below is =
      λ i. cond (row_fits m changes (row_meant meaning (sym is i)) new && not (rest-meant meaning rows last changes i)) (Some number) (met m changes last new (number + 1) (rows_meant meaning rows))
  at_row number (suc k) (x ∷ rows) row below is = at_row number k rows row (omega arith) is

  module _ (whole : Option ℕ) (k : ℕ) (rows : List (Row S)) (so_far : met m changes last new (k + 1) (drop k (rows_meant meaning rows)) ≡ whole) where
    pub search-ends : length rows ≤ k → None ≡ whole
    search-ends past = sym (ap (met m changes last new (k + 1)) (none k (rows_meant meaning rows) (let same : length (rows_meant meaning rows) ≡ length rows = length-map rows (row_meant meaning) in omega arith))) ∙ so_far
      where
        none : (n : ℕ) (xs : List (Row M)) → length xs ≤ n → drop n xs ≡ []
        none zero [] short = refl
        none zero (x ∷ xs) short = absurd (omega arith)
        none (suc n) [] short = refl
        none (suc n) (x ∷ xs) short = none n xs (omega arith)

    pub search-finds : {row : Row S} → k < length rows → row ≡ slice_index_or rows k row → (row_fits m changes (row_meant meaning row) new && not (rest_asks_any (drop (k + 1) rows) last changes)) ≡ true → Some (k + 1) ≡ whole
    search-finds {row = row} below is holds =
        let next : k + 1 ≡ suc k = omega arith in
        sym (at_row (k + 1) k rows row below is
        ∙ ap (λ b. cond b (Some (k + 1)) (met m changes last new (k + 1 + 1) (drop (suc k) (rows_meant meaning rows)))) (ap (λ n. row_fits m changes (row_meant meaning row) new && not (rest_asks_any (drop n rows) last changes)) (sym next) ∙ holds))
        ∙ so_far

    pub search-goes : {row : Row S} → k < length rows → row ≡ slice_index_or rows k row → (row_fits m changes (row_meant meaning row) new && not (rest_asks_any (drop (k + 1) rows) last changes)) ≡ false
        → met m changes last new (k + 1 + 1) (drop (k + 1) (rows_meant meaning rows)) ≡ whole
    search-goes {row = row} below is fails =
        let next : k + 1 ≡ suc k = omega arith in
        ap (λ n. met m changes last new (k + 1 + 1) (drop n (rows_meant meaning rows))) next
        ∙ sym (at_row (k + 1) k rows row below is
        ∙ ap (λ b. cond b (Some (k + 1)) (met m changes last new (k + 1 + 1) (drop (suc k) (rows_meant meaning rows)))) (ap (λ n. row_fits m changes (row_meant meaning row) new && not (rest_asks_any (drop n rows) last changes)) (sym next) ∙ fails))
        ∙ so_far
