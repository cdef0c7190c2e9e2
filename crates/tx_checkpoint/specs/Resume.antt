-- How far the rows of a run stand when files are changed.
use Rattle.std.specs.Prelude.{ℕ, ◌-◌, Bool, ◌&&◌, List, [], ◌∷◌, take}
use Rattle.std.specs.List.{prefix_len, list_all}
use Rattle.tx_files.specs.Reads.{untouched}
use Rattle.tx_files.specs.declared.edit.Change.{Change}
use Rattle.tx_bytes.specs.Files.{Files}
use Rattle.tx_machine.specs.declared.types.Date.{Date}
use Rattle.tx_machine.specs.declared.types.Limits.{Limits}
use Rattle.tx_machine.specs.declared.types.OpenFile.{OpenFile}
use Rattle.tx_machine.specs.Machine.{Formatter}
use Rattle.tx_checkpoint.specs.declared.row.Row.{Row}
use Rattle.tx_checkpoint.specs.declared.row.Last.{Last}
use Rattle.tx_checkpoint.specs.Rows.{History, rows_in, rows_from}

-- whether changes leave what the turns of a row read as it is
abbrev pub stays : {S : Type 0} → List Change → Row S → Bool
stays changes row = untouched row.seen changes

-- the row at which formatting resumes after changes: the last one that they leave with all rows before it, and 0, the start,
-- where they don't leave the first; each row is kept
abbrev pub resume : {S : Type 0} → List (Row S) → List Change → ℕ
resume rows changes = prefix_len (stays changes) rows

-- whether changes leave the reads of all rows and of the stretch after them, so that everything stands
abbrev pub all_stay : {S : Type 0} → List (Row S) → Last → List Change → Bool
all_stay rows last changes = list_all (stays changes) rows && untouched last.seen changes

abbrev pub stands : {S : Type 0} → History S → List Change → Bool
stands h changes = all_stay (rows_in h.pages) h.last changes

-- a state and the open files, where the next page begins
pub record Begun (S : Type 0) : Type 0 where
  pub state : S
  pub opens : List OpenFile

-- where the next page begins behind some rows: after the last of them, and where none is, where they began
abbrev pub after_rows : {S : Type 0} → Begun S → List (Row S) → Begun S
after_rows begun [] = begun
after_rows begun (row ∷ rows) = after_rows (record { state = row.state; opens = row.opens }) rows

-- where a run begins: at the machine's start, with no file open
abbrev pub start_of : {S : Type 0} → Formatter S → List ℕ → Date → Begun S
start_of m main date = record { state = m.start date main; opens = [] }

-- the run behind the first k of some rows: from the state and the open files after them, with a whole budget, for the pages
-- that are left
abbrev pub run_behind : {S : Type 0} → Formatter S → Files → List (Row S) → ℕ → List ℕ → Date → Limits → History S
run_behind m files rows k main date limits =
    let begun = after_rows (start_of m main date) (take k rows) in
    rows_from m files limits.budget (limits.pages - k) begun.state begun.opens
