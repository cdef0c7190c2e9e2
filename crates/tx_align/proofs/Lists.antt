-- The two parts of a list at a place that is held within it.
use Rattle.std.proofs.Common.{◌≡◌, ℕ, min, List, length, take, drop}
use Rattle.std.proofs.lemmas.List.{take_min, drop_min}
use Rattle.tx_align.specs.declared.prototype.PlacedColumn.{PlacedColumn}

pub taken : (n : ℕ) (xs : List PlacedColumn) → take (min n (length xs)) xs ≡ take n xs
taken n xs = take_min n xs

pub dropped : (n : ℕ) (xs : List PlacedColumn) → drop (min n (length xs)) xs ≡ drop n xs
dropped n xs = drop_min n xs
