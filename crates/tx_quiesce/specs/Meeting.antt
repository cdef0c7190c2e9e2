-- When a new row meets an old one, so that the rest must come out the same.
use Rattle.std.specs.Prelude.{◌+◌, ◌-◌, Bool, true, false, ◌&&◌, ◌||◌, not, ◌==◌, ℕ, max, drop, List, [], ◌∷◌, Option, Some, None, if◌then◌else◌}
use Rattle.std.specs.List.{list_any}
use Rattle.std.specs.Str.{bytes_eq}
use Rattle.tx_files.specs.declared.edit.Change.{Change}
use Rattle.tx_files.specs.Carry.{carried_place}
use Rattle.tx_files.specs.Reads.{asks_for, asks_for_any}
use Rattle.tx_machine.specs.Machine.{Formatter}
use Rattle.tx_machine.specs.declared.types.OpenFile.{OpenFile}
use Rattle.tx_checkpoint.specs.declared.row.Row.{Row}
use Rattle.tx_checkpoint.specs.declared.row.Last.{Last}

-- whether an old offset, carried through the changes, is the new one; None is one that they don't carry
abbrev pub comes_to : Option ℕ → ℕ → Bool
comes_to None new = false
comes_to (Some old) new = new == old

-- an open file of the old run and one of the new run: the same file, which none of the changes takes away, read up to the same
-- place, behind what the edits take out
abbrev pub file_fits : List Change → OpenFile → OpenFile → Bool
file_fits changes old new = bytes_eq new.name old.name && comes_to (carried_place changes old.name old.offset) new.offset

-- the same files are open in the same order
abbrev pub opens_fit : List Change → List OpenFile → List OpenFile → Bool
opens_fit changes [] [] = true
opens_fit changes (old ∷ olds) (new ∷ news) = file_fits changes old new && opens_fit changes olds news
opens_fit changes _ _ = false

-- a new row fits an old one where the open files fit and the states are equal
abbrev pub row_fits : {S : Type 0} → Formatter S → List Change → Row S → Row S → Bool
row_fits m changes old new = opens_fit changes old.opens new.opens && m.same new.state old.state

-- whether the turns of some rows asked to open a file or to take it whole, or those of the stretch after them
abbrev pub rest_asks : {S : Type 0} → List (Row S) → Last → List ℕ → Bool
rest_asks rows last name = list_any (λ row. asks_for row.seen name) rows || asks_for last.seen name

-- whether they asked so for one of the files that are changed
abbrev pub rest_asks_any : {S : Type 0} → List (Row S) → Last → List Change → Bool
rest_asks_any rows last changes = list_any (λ row. asks_for_any row.seen changes) rows || asks_for_any last.seen changes

-- the first of some old rows, counted on from this number, that a new row fits and after which the old run asks for none of the
-- files that are changed: there they meet
abbrev pub met : {S : Type 0} → Formatter S → List Change → Last → Row S → ℕ → List (Row S) → Option ℕ
met m changes last new number [] = None
met m changes last new number (old ∷ olds) =
    if row_fits m changes old new && not (rest_asks_any olds last changes) then Some number else met m changes last new (number + 1) olds

-- row 0, the start, never takes part, nor a row before the one at which formatting resumed
abbrev pub met_row : {S : Type 0} → Formatter S → List Change → List (Row S) → Last → ℕ → Row S → Option ℕ
met_row m changes olds last resumed new = met m changes last new (max resumed 1) (drop (max resumed 1 - 1) olds)

-- a meeting: how many rows were formatted up to it, and the number of the old row
pub record Meeting : Type 0 where
  pub formatted : ℕ
  pub old : ℕ

abbrev pub one_later : Option Meeting → Option Meeting
one_later None = None
one_later (Some meeting) = Some (record meeting { formatted = meeting.formatted + 1 })

abbrev pub meeting_at : Option ℕ → Option Meeting → Option Meeting
meeting_at None later = one_later later
meeting_at (Some old) later = Some (record { formatted = 1; old = old })

-- the first meeting: the least new row that meets an old one, and the least such old row
abbrev pub first_meeting : {S : Type 0} → Formatter S → List Change → List (Row S) → Last → ℕ → List (Row S) → Option Meeting
first_meeting m changes olds last resumed [] = None
first_meeting m changes olds last resumed (new ∷ news) = meeting_at (met_row m changes olds last resumed new) (first_meeting m changes olds last resumed news)
