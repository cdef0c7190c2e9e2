-- Old rows whose innermost file wasn't read up to where it must have been aren't met, and the search goes on behind them.
use Rattle.std.proofs.Common.{◌≡◌, ℕ, suc, ◌+◌, ◌-◌, Bool, true, false, cond, not, max, ◌&&◌, List, [], ◌∷◌, map, drop, Option, Some, None, refl, sym, ap, ◌∙◌, arith, true≢false, nat_eq}
use Rattle.std.proofs.lemmas.Bool.{eq-eqb}
use Rattle.std.proofs.lemmas.List.{drop-drop, drop-map}
use Rattle.tx_files.specs.declared.edit.Change.{Change}
use Rattle.tx_machine.specs.Machine.{Formatter}
use Rattle.tx_checkpoint.specs.declared.row.Row.{Row}
use Rattle.tx_checkpoint.specs.declared.row.Last.{Last}
use Rattle.tx_checkpoint.specs.Meant.{row_meant, rows_meant}
use Rattle.tx_quiesce.specs.Meeting.{opens_fit, rest_asks_any, met, met_row}
use Rattle.tx_quiesce.specs.Tails.{innermost_offset, unequal, skipped, IsOrigin}

module _ {S M : Type 0} (m : Formatter M) (meaning : S → M) (changes : List Change) (last : Last) (new : Row M) where
  -- where it is known how far the innermost file was read, a row of which it was read otherwise isn't met
  module _ (origin : ℕ) (is_origin : IsOrigin changes new.opens (Some origin)) where
    abbrev skip : List (Row S) → ℕ
    skip rows = unequal origin (map (λ row. innermost_offset row.opens) rows)

    misses : (number : ℕ) (row : Row S) (rows : List (Row S)) → nat_eq (innermost_offset row.opens) origin ≡ false
        → met m changes last new number (rows_meant meaning (row ∷ rows)) ≡ met m changes last new (number + 1) (rows_meant meaning rows)
    misses number row rows fails = by (opens_fit changes row.opens new.opens) refl
      where
        by : (fit : Bool) → opens_fit changes row.opens new.opens ≡ fit
            → cond ((fit && m.same new.state (meaning row.state)) && not (rest_asks_any (rows_meant meaning rows) last changes)) (Some number) (met m changes last new (number + 1) (rows_meant meaning rows))
            ≡ met m changes last new (number + 1) (rows_meant meaning rows)
        by true is = absurd (true≢false (sym (eq-eqb (innermost_offset row.opens) origin (is_origin row.opens is)) ∙ fails))
        by false is = refl

    passes : (number : ℕ) (rows : List (Row S)) → met m changes last new (number + skip rows) (drop (skip rows) (rows_meant meaning rows)) ≡ met m changes last new number (rows_meant meaning rows)
    passes number [] = refl
    passes number (row ∷ rows) = by (nat_eq (innermost_offset row.opens) origin) refl (passes (number + 1) rows)
      where
        by : (fits : Bool) → nat_eq (innermost_offset row.opens) origin ≡ fits
            → met m changes last new (number + 1 + skip rows) (drop (skip rows) (rows_meant meaning rows)) ≡ met m changes last new (number + 1) (rows_meant meaning rows)
            → met m changes last new (number + cond fits 0 (1 + skip rows)) (drop (cond fits 0 (1 + skip rows)) (rows_meant meaning (row ∷ rows))) ≡ met m changes last new number (rows_meant meaning (row ∷ rows))
        by true is behind = let same : number + 0 ≡ number = omega arith in ap (λ n. met m changes last new n (rows_meant meaning (row ∷ rows))) same
        by false is behind =
            let more : number + (1 + skip rows) ≡ number + 1 + skip rows = omega arith in
            let one : 1 + skip rows ≡ suc (skip rows) = omega arith in
            (λ i. met m changes last new (more i) (drop (one i) (rows_meant meaning (row ∷ rows)))) ∙ behind ∙ sym (misses number row rows is)

    later_by : (k : ℕ) {at : ℕ} (rows : List (Row S)) {tails : List ℕ} → tails ≡ map (λ row. innermost_offset row.opens) rows → at ≡ k + unequal origin (drop k tails)
        → met m changes last new (at + 1) (drop at (rows_meant meaning rows)) ≡ met m changes last new (k + 1) (drop k (rows_meant meaning rows))
    later_by k {at = at} rows {tails = tails} are at_is =
        let tails_are : drop k tails ≡ map (λ row. innermost_offset row.opens) (drop k rows) = ap (drop k) are ∙ drop-map (λ row. innermost_offset row.opens) k rows in
        let skips : unequal origin (drop k tails) ≡ skip (drop k rows) = ap (unequal origin) tails_are in
        let place : at ≡ k + skip (drop k rows) = omega (arith, at_is, skips) in
        let number : at + 1 ≡ k + 1 + skip (drop k rows) = omega (arith, place) in
        let behind : drop at (rows_meant meaning rows) ≡ drop (skip (drop k rows)) (rows_meant meaning (drop k rows)) =
        ap (λ n. drop n (rows_meant meaning rows)) place ∙ sym (drop-drop (skip (drop k rows)) k (rows_meant meaning rows)) ∙ ap (drop (skip (drop k rows))) (drop-map (row_meant meaning) k rows) in
        (λ i. met m changes last new (number i) (behind i)) ∙ passes (k + 1) (drop k rows) ∙ ap (met m changes last new (k + 1)) (sym (drop-map (row_meant meaning) k rows))

  -- the search from a row on is that from the first one that may fit
  pub met-later : (k : ℕ) {at : ℕ} (origin : Option ℕ) (rows : List (Row S)) {tails : List ℕ} → IsOrigin changes new.opens origin → tails ≡ map (λ row. innermost_offset row.opens) rows → at ≡ k + skipped origin (drop k tails)
      → met m changes last new (at + 1) (drop at (rows_meant meaning rows)) ≡ met m changes last new (k + 1) (drop k (rows_meant meaning rows))
  met-later k {at = at} None rows known are at_is = let same : at ≡ k = omega (arith, at_is) in ap (λ n. met m changes last new (n + 1) (drop n (rows_meant meaning rows))) same
  met-later k {at = at} (Some origin) rows known are at_is = later_by origin known k rows are at_is

  -- the search begins at the row at which formatting resumed
  pub met-begins : (k resumed : ℕ) (rows : List (Row M)) → k ≡ max resumed 1 - 1 → met m changes last new (k + 1) (drop k rows) ≡ met_row m changes rows last resumed new
  met-begins k resumed rows is =
      let number : k + 1 ≡ max resumed 1 = omega (arith, is) in
      λ i. met m changes last new (number i) (drop (is i) rows)
