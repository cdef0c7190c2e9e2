-- The map that a list of entries stands for.
use Rattle.std.specs.Prelude.{ℕ, List, map}
use Rattle.std.specs.Ordering.{nat_cmp}
use Rattle.std.specs.Cmp.Lexicographic.{slice_cmp}
use Rattle.std.specs.Global.{Vec}
use Rattle.std.specs.FinMap.{FinMap, from_entries}
use Rattle.tx_bytes.specs.Files.{Files}

-- by names, each name once
abbrev pub by_names : {X : Type 0} → List (Vec ℕ × X) → FinMap (slice_cmp nat_cmp) X
by_names entries = from_entries (map (λ e. (e.0.items, e.1)) entries)

-- names and contents
abbrev pub files_of : List (Vec ℕ × List ℕ) → Files
files_of entries = by_names entries
