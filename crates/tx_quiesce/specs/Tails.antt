-- Old rows are found by how far their innermost file was read.
use Rattle.std.specs.Prelude.{◌≡◌, ◌≢◌, ◌+◌, ◌<◌, ◌≤◌, true, ◌==◌, ℕ, List, [], ◌∷◌, map, length, slice_index_or, Option, Some, None, if◌then◌else◌}
use Rattle.std.specs.List.Sorted.{IsNonDecreasing}
use Rattle.tx_files.specs.Carry.{carried_place, place_after}
use Rattle.tx_files.specs.Shift.{shifted, IsBehind}
use Rattle.tx_files.specs.declared.edit.Edit.{Edit as FileEdit}
use Rattle.tx_files.specs.declared.edit.Change.{Change}
use Rattle.tx_machine.specs.declared.types.OpenFile.{OpenFile}
use Rattle.tx_machine.specs.Opens.{innermost}
use Rattle.tx_checkpoint.specs.declared.row.Row.{Row}
use Rattle.tx_quiesce.specs.declared.tails.Offsets.{Offsets}
use Rattle.tx_quiesce.specs.declared.tails.Offsets.TheVariants.{Unread, Ascending, Mixed}
use Rattle.tx_quiesce.specs.Meeting.{opens_fit}

abbrev pub offset_of : Option OpenFile → ℕ
offset_of None = 0
offset_of (Some file) = file.offset

-- how far the innermost open file was read; 0 where none is open
abbrev pub innermost_offset : List OpenFile → ℕ
innermost_offset opens = offset_of (innermost opens)

abbrev pub offsets_of : {S : Type 0} → List (Row S) → List ℕ
offsets_of rows = map (λ row. innermost_offset row.opens) rows

-- what is written down of the offsets of some rows is true of them
abbrev pub AreOffsets : {S : Type 0} → List (Row S) → Offsets → Type 0
AreOffsets rows Unread = Unit {0}
AreOffsets rows (Ascending numbers) = (numbers.items ≡ offsets_of rows) × IsNonDecreasing numbers.items
AreOffsets rows (Mixed numbers) = numbers.items ≡ offsets_of rows

-- the only place of a file that an edit moves here, if there is one; None where that isn't known
abbrev pub IsMovedFrom : FileEdit → ℕ → Option ℕ → Type 0
IsMovedFrom e here None = Unit {0}
IsMovedFrom e here (Some from) = (old : ℕ) → IsBehind e old → shifted e old ≡ here → old ≡ from

-- the only one that a change leads here, and that changes do
abbrev pub IsLedFrom : Change → List ℕ → ℕ → Option ℕ → Type 0
IsLedFrom c name here None = Unit {0}
IsLedFrom c name here (Some from) = (old : ℕ) → place_after c name old ≡ Some here → old ≡ from

abbrev pub IsCarriedFrom : List Change → List ℕ → ℕ → Option ℕ → Type 0
IsCarriedFrom changes name here None = Unit {0}
IsCarriedFrom changes name here (Some from) = (old : ℕ) → carried_place changes name old ≡ Some here → old ≡ from

-- the only offset that the innermost of open files can have which fit these, if there are any; None where that isn't known
abbrev pub IsOrigin : List Change → List OpenFile → Option ℕ → Type 0
IsOrigin changes news None = Unit {0}
IsOrigin changes news (Some origin) = (olds : List OpenFile) → opens_fit changes olds news ≡ true → innermost_offset olds ≡ origin

-- how many of some offsets, from the first one on, aren't this one
abbrev pub unequal : ℕ → List ℕ → ℕ
unequal origin [] = 0
unequal origin (old ∷ olds) = if old == origin then 0 else 1 + unequal origin olds

-- how many old offsets, from the first one on, can't be those of open files that fit
abbrev pub skipped : Option ℕ → List ℕ → ℕ
skipped None olds = 0
skipped (Some origin) olds = unequal origin olds

-- the place, from one on, that has lesser numbers than this before it and none behind it
pub record IsFirstNotLess (numbers : List ℕ) (from value at : ℕ) : Type 0 where
  pub past : from ≤ at
  pub within : at ≤ length numbers
  pub less : (k d : ℕ) → from ≤ k → k < at → slice_index_or numbers k d < value
  pub not_less : (k d : ℕ) → at ≤ k → k < length numbers → value ≤ slice_index_or numbers k d

-- the first place from one on where a number stands, or the end
pub record IsNextEqual (numbers : List ℕ) (from value at : ℕ) : Type 0 where
  pub past : from ≤ at
  pub within : at ≤ length numbers
  pub before : (k d : ℕ) → from ≤ k → k < at → slice_index_or numbers k d ≢ value
  pub there : (d : ℕ) → at < length numbers → slice_index_or numbers at d ≡ value
