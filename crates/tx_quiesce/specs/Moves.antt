-- Rows that stand behind a list of changes move with it, change by change.
use Rattle.std.specs.Prelude.{◌≡◌, ◌==◌, ℕ, Bool, true, List, ◌++◌, length, map, take, drop}
use Rattle.std.specs.List.{All}
use Rattle.std.specs.FinMap.{get}
use Rattle.tx_bytes.specs.Files.{Files}
use Rattle.tx_files.specs.declared.edit.Change.{Change}
use Rattle.tx_files.specs.declared.edit.Change.TheVariants.{Edit, Remove}
use Rattle.tx_files.specs.Carry.{carried, CanCarry}
use Rattle.tx_files.specs.Reads.{Reads}
use Rattle.tx_files.specs.Shift.{shifted_reads, CanShiftReads}
use Rattle.tx_machine.specs.declared.types.OpenFile.{OpenFile}
use Rattle.tx_checkpoint.specs.declared.row.Row.{Row}
use Rattle.tx_checkpoint.specs.declared.row.Rows.{Rows}
use Rattle.tx_checkpoint.specs.declared.row.Last.{Last}
use Rattle.tx_checkpoint.specs.Rows.{PageRow}
use Rattle.tx_quiesce.specs.Shift.{shifted_opens, CanShiftFile, end_now}

-- what a change makes of open files and of reads: an edit moves them, and to take a file away leaves those of all others
abbrev pub opens_by : Change → List OpenFile → List OpenFile
opens_by (Edit e) opens = shifted_opens e opens
opens_by (Remove name) opens = opens

abbrev pub reads_by : Change → Reads → Reads
reads_by (Edit e) reads = shifted_reads e reads
reads_by (Remove name) reads = reads

-- the same after a list of changes
abbrev pub carried_opens : List Change → List OpenFile → List OpenFile
carried_opens changes opens = carried opens_by changes opens

abbrev pub carried_reads : List Change → Reads → Reads
carried_reads changes reads = carried reads_by changes reads

-- a row moves its open files and its reads; its turns and its state stay
abbrev pub carried_row : {S : Type 0} → List Change → Row S → Row S
carried_row changes row = record row { seen = carried_reads changes row.seen; opens = carried_opens changes row.opens }

-- rows of which so many behind a number are moved
abbrev pub with_part_carried : {S : Type 0} → List Change → ℕ → ℕ → List (Row S) → List (Row S)
with_part_carried changes from count rows = take from rows ++ (map (carried_row changes) (take count (drop from rows)) ++ drop count (drop from rows))

abbrev pub carried_page : {S : Type 0} → List Change → PageRow S → PageRow S
carried_page changes page = record page { row = carried_row changes page.row }

-- so does the stretch after the rows; its end stays as it is
abbrev pub carried_last : List Change → Last → Last
carried_last changes last = record last { seen = carried_reads changes last.seen; opens = carried_opens changes last.opens }

-- the stretch after the rows on the changed files
abbrev pub last_now : Files → List Change → Last → Last
last_now files changes last = record (carried_last changes last) { end = end_now files (carried_opens changes last.opens) last.end }

-- whether a change leaves all that stands behind it where it is: an edit does that puts in as many bytes as it takes out
abbrev pub is_even : Change → Bool
is_even (Edit e) = e.removed == length e.put
is_even (Remove name) = true

-- what is moved stands behind each edit, as the changes before leave it, and offsets still tell of it
abbrev pub CanMoveOpens : Change → List OpenFile → Type 0
CanMoveOpens (Edit e) opens = All (CanShiftFile e) opens
CanMoveOpens (Remove name) opens = Unit {0}

abbrev pub CanMoveReads : Change → Reads → Type 0
CanMoveReads (Edit e) reads = CanShiftReads e (get reads e.name)
CanMoveReads (Remove name) reads = Unit {0}

abbrev pub CanCarryOpens : List Change → List OpenFile → Type 0
CanCarryOpens changes opens = CanCarry opens_by CanMoveOpens changes opens

abbrev pub CanCarryReads : List Change → Reads → Type 0
CanCarryReads changes reads = CanCarry reads_by CanMoveReads changes reads

pub record CanCarryRow {S : Type 0} (changes : List Change) (row : Row S) : Type 0 where
  pub opens : CanCarryOpens changes row.opens
  pub seen : CanCarryReads changes row.seen

pub record CanCarryLast (changes : List Change) (last : Last) : Type 0 where
  pub opens : CanCarryOpens changes last.opens
  pub seen : CanCarryReads changes last.seen

-- rows in code that are these, moved
pub record AreCarried {S : Type 0} (changes : List Change) (old new : Rows S) : Type 0 where
  pub pages_are : new.pages.items ≡ old.pages.items
  pub pieces_are : new.pieces.items ≡ old.pieces.items
  pub rows_are : new.rows.items ≡ map (carried_row changes) old.rows.items
  pub last_is : new.last ≡ carried_last changes old.last
