-- The files that a map in memory holds, from its entries.
use Rattle.std.specs.Prelude.{ℕ, List, map}
use Rattle.std.specs.Global.{Vec}
use Rattle.std.specs.FinMap.{from_entries}
use Rattle.tx_bytes.specs.Files.{Files}

abbrev pub files_of : List (Vec ℕ × List ℕ) → Files
files_of entries = from_entries (map (λ entry. (entry.0.items, entry.1)) entries)
