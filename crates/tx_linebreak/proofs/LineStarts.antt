-- Where lines start, from the list's end backwards.
use Rattle.std.proofs.Common.{◌≡◌, ℕ, suc, ◌≤◌, List, length, drop, get_or, arith}
use Rattle.std.proofs.lemmas.List.{at_drop_all}
use Rattle.tx_linebreak.specs.declared.piece.Piece.{Piece}
use Rattle.tx_linebreak.specs.Breaks.{discardables, past_discardables}

-- the starts from a place on
pub record AreStartsFrom (place : ℕ) (starts : List ℕ) (pieces : List Piece) : Type 0 where
  pub within : place ≤ length pieces
  pub length_is : length starts ≡ suc (length pieces)
  pub starts_are : (k d : ℕ) → place ≤ k → k ≤ length pieces → get_or starts k d ≡ past_discardables pieces k

-- behind the list's end nothing vanishes
pub past-over : (pieces : List Piece) (place : ℕ) → length pieces ≤ place → past_discardables pieces place ≡ place
past-over pieces place over =
    let none : discardables (drop place pieces) ≡ 0 = at_drop_all discardables pieces place over in
    omega arith
