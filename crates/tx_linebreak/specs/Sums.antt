-- Totals before each place of a list, so that those of a part are a difference, and where lines start. No public clause speaks
-- of it.
use Rattle.std.specs.Prelude.{◌≡◌, ℕ, suc, ◌≤◌, ◌^◌, List, length, take, slice_index_or}
use Rattle.tx_linebreak.specs.declared.piece.Piece.{Piece}
use Rattle.tx_linebreak.specs.declared.totals.Totals.{Totals}
use Rattle.tx_linebreak.specs.Breaks.{past_discardables}
use Rattle.tx_linebreak.specs.Totals.{IsWithin, totals_of}

-- a list of totals has those of the pieces before each place, up to all of them
pub record AreSums (sums : List Totals) (pieces : List Piece) : Type 0 where
  pub length_is : length sums ≡ suc (length pieces)
  pub sums_are : (k : ℕ) (d : Totals) → k ≤ length pieces → slice_index_or sums k d ≡ totals_of (take k pieces)
  pub small : (k : ℕ) (d : Totals) → k ≤ length pieces → IsWithin (2 ^ 94) (slice_index_or sums k d)

-- a list has for each place, up to the list's end, the first one from there on whose piece doesn't vanish behind a break
pub record AreStarts (starts : List ℕ) (pieces : List Piece) : Type 0 where
  pub length_is : length starts ≡ suc (length pieces)
  pub starts_are : (k d : ℕ) → k ≤ length pieces → slice_index_or starts k d ≡ past_discardables pieces k
