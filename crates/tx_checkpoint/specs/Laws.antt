-- Why formatting may resume: what changes leave untouched they don't change.
use Rattle.std.specs.Prelude.{◌≡◌, ℕ, ◌≤◌, true, List, length, take}
use Rattle.std.specs.List.{list_all}
use Rattle.tx_bytes.specs.Files.{Files}
use Rattle.tx_files.specs.Changes.{all_fit, all_changed}
use Rattle.tx_files.specs.declared.edit.Change.{Change}
use Rattle.tx_machine.specs.declared.types.Date.{Date}
use Rattle.tx_machine.specs.declared.types.Limits.{Limits}
use Rattle.tx_machine.specs.Machine.{Formatter}
use Rattle.tx_machine.specs.Run.{run}
use Rattle.tx_checkpoint.specs.declared.row.Row.{Row}
use Rattle.tx_checkpoint.specs.Rows.{rows_in, fresh_rows, behind, run_of}
use Rattle.tx_checkpoint.specs.Resume.{stays, resume, stands, run_behind}

-- there are so many rows, and changes leave their reads as they are
pub record AreUntouched {S : Type 0} (rows : List (Row S)) (k : ℕ) (changes : List Change) : Type 0 where
  pub within : k ≤ length rows
  pub stay : list_all (stays changes) (take k rows) ≡ true

-- the fresh run is the one that its rows tell
abbrev pub RowsLaw : {S : Type 0} → Formatter S → Type 0
RowsLaw m = (files : Files) (main : List ℕ) (date : Date) (limits : Limits) →
    run m files main date limits ≡ run_of (fresh_rows m files main date limits)

-- the row at which formatting resumes is the last one up to which the changes leave all reads
pub record IsLastUntouched {S : Type 0} (rows : List (Row S)) (i : ℕ) (changes : List Change) : Type 0 where
  pub untouched : AreUntouched rows i changes
  pub last : (k : ℕ) → AreUntouched rows k changes → k ≤ i

abbrev pub ResumeLaw : {S : Type 0} → Formatter S → Type 0
ResumeLaw {S} m = (rows : List (Row S)) (changes : List Change) → IsLastUntouched rows (resume rows changes) changes

-- where changes leave the reads of the first k rows, the first k pages are the same on the changed files: their bodies,
-- pieces, turns, reads, open files and states
abbrev pub PrefixLaw : {S : Type 0} → Formatter S → Type 0
PrefixLaw m = (files : Files) (changes : List Change) (main : List ℕ) (date : Date) (limits : Limits) (k : ℕ) →
    all_fit files changes ≡ true → AreUntouched (rows_in (fresh_rows m files main date limits).pages) k changes →
    take k (fresh_rows m (all_changed files changes) main date limits).pages ≡ take k (fresh_rows m files main date limits).pages

-- the run on the changed files is then these pages, and the run behind them
abbrev pub ResumedLaw : {S : Type 0} → Formatter S → Type 0
ResumedLaw m = (files : Files) (changes : List Change) (main : List ℕ) (date : Date) (limits : Limits) (k : ℕ) →
    all_fit files changes ≡ true → AreUntouched (rows_in (fresh_rows m files main date limits).pages) k changes →
    let before = (fresh_rows m files main date limits).pages in
    fresh_rows m (all_changed files changes) main date limits ≡ behind (take k before) (run_behind m (all_changed files changes) (rows_in before) k main date limits)

-- where changes leave all reads, the whole run stands: its rows, its last stretch, and its end with an error's line
abbrev pub StandsLaw : {S : Type 0} → Formatter S → Type 0
StandsLaw m = (files : Files) (changes : List Change) (main : List ℕ) (date : Date) (limits : Limits) →
    all_fit files changes ≡ true → stands (fresh_rows m files main date limits) changes ≡ true →
    fresh_rows m (all_changed files changes) main date limits ≡ fresh_rows m files main date limits
