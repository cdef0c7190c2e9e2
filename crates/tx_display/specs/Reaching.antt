-- The last item that shows is looked for item by item. No public clause speaks of it.
use Rattle.std.specs.Prelude.{ℕ, zero, suc, ◌+◌, List, [], ◌∷◌, if◌then◌else◌}
use Rattle.tx_node.specs.Items.{Item}
use Rattle.tx_display.specs.Edges.{shows}

-- behind so many items, of which so many reach up to the last one that shows
abbrev pub reach_from : ℕ → ℕ → List Item → ℕ
reach_from at found [] = found
reach_from at found (item ∷ rest) = reach_from (at + 1) (if shows item then at + 1 else found) rest

-- the same by what reaches further
abbrev pub further : ℕ → ℕ → ℕ → ℕ
further at found zero = found
further at found (suc n) = at + suc n
