-- By which page what stands at a place of a file is first read. An edit there touches the reads of a stretch whatever it takes out and
-- puts in.
use Rattle.std.specs.Prelude.{ℕ, ◌+◌, Bool, nat_lt, List, length, if◌then◌else◌}
use Rattle.std.specs.List.{prefix_len}
use Rattle.std.specs.FinMap.{get}
use Rattle.tx_files.specs.Reads.{leaves}
use Rattle.tx_checkpoint.specs.declared.located.Located.{Located}
use Rattle.tx_checkpoint.specs.declared.located.Located.TheVariants.{Page, After, Nowhere}
use Rattle.tx_checkpoint.specs.declared.row.Row.{Row}
use Rattle.tx_checkpoint.specs.declared.row.Last.{Last}
use Rattle.tx_checkpoint.specs.Rows.{History, rows_in}

-- whether an edit at a place of the file of this name leaves the reads of a row
abbrev pub passes : {S : Type 0} → List ℕ → ℕ → Row S → Bool
passes name place row = leaves (get row.seen name) place

-- of so many rows it leaves the first ones, so many; then of a next one those of its page are touched, else those of the last stretch
-- unless it leaves them too
abbrev pub located_at : ℕ → ℕ → Bool → Located
located_at passed rows left = if nat_lt passed rows then Page (passed + 1) else if left then Nowhere else After

abbrev pub located_in : {S : Type 0} → List (Row S) → Last → List ℕ → ℕ → Located
located_in rows last name place = located_at (prefix_len (passes name place) rows) (length rows) (leaves (get last.seen name) place)

-- so in a run
abbrev pub located : {S : Type 0} → History S → List ℕ → ℕ → Located
located h name place = located_in (rows_in h.pages) h.last name place
