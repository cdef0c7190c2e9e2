-- Changes of files: one is edited, or taken away; and lists of changes, each counted in the files as those before it leave them.
use Rattle.std.specs.Prelude.{◌≡◌, ℕ, ◌+◌, ◌<◌, ◌^◌, Bool, true, false, ◌&&◌, List, [], ◌∷◌, fold, Option, Some, None, Result, Ok, Err, if◌then◌else◌}
use Rattle.std.specs.FinMap.{remove}
use Rattle.tx_bytes.specs.Files.{Files}
use Rattle.tx_files.specs.Edits.{length_of, fits_in, edited}
use Rattle.tx_files.specs.declared.edit.Edit.{Edit as FileEdit}
use Rattle.tx_files.specs.declared.edit.Change.{Change}
use Rattle.tx_files.specs.declared.edit.Change.TheVariants.{Edit, Remove}
use Rattle.tx_files.specs.declared.edit.Refusal.{Refusal}
use Rattle.tx_files.specs.declared.edit.Refusal.TheVariants as edits
use Rattle.tx_files.specs.declared.edit.BatchRefusal.{BatchRefusal}
use Rattle.tx_files.specs.declared.edit.BatchRefusal.TheVariants.{Outside, OutOfMemory}

-- the name of the file that is changed
abbrev pub name_of : Change → List ℕ
name_of (Edit e) = e.name
name_of (Remove name) = name

-- whether a change can be made: an edit where what it takes out lies within its file, and a removal always
abbrev pub fits : Files → Change → Bool
fits files (Edit e) = fits_in files e
fits files (Remove name) = true

-- the files after a change that can be made; to take away a file that isn't there changes nothing
abbrev pub changed : Files → Change → Files
changed files (Edit e) = edited files e
changed files (Remove name) = remove files name

-- whether a list of changes can be made: each on the files as those before it leave them
abbrev pub all_fit : Files → List Change → Bool
all_fit files [] = true
all_fit files (c ∷ changes) = fits files c && all_fit (changed files c) changes

-- the files after a list that can be made
abbrev pub all_changed : Files → List Change → Files
all_changed files changes = fold changed files changes

-- the files after a list, which leaves them as they are where it can't be made
abbrev pub after_changes : Files → List Change → Files
after_changes files changes = if all_fit files changes then all_changed files changes else files

-- the first change that can't be made, of changes that are counted from this number on: its number, and how long its file is then
abbrev pub outside_from : ℕ → Files → List Change → Option (ℕ × ℕ)
outside_from number files [] = None
outside_from number files (c ∷ changes) =
    if fits files c then outside_from (number + 1) (changed files c) changes else Some (number, length_of files (name_of c))

-- the same, where the changes are counted from 1
abbrev pub first_outside : Files → List Change → Option (ℕ × ℕ)
first_outside files changes = outside_from 1 files changes

-- on the way each file that is changed is one that memory can hold
abbrev pub AreSmall : Files → List Change → Type 0
AreSmall files [] = Unit {0}
AreSmall files (c ∷ changes) = (length_of (changed files c) (name_of c) < 2 ^ 64) × AreSmall (changed files c) changes

-- what tells how long the file of an edit is, where the edit goes past its end
abbrev pub IsOutside : Files → FileEdit → Option ℕ → Type 0
IsOutside files e None = fits_in files e ≡ true
IsOutside files e (Some len) = (fits_in files e ≡ false) × (len ≡ length_of files e.name)

-- why the change of a number wasn't made
abbrev pub numbered : ℕ → Refusal → BatchRefusal
numbered number (edits.Outside len) = Outside number len
numbered number edits.OutOfMemory = OutOfMemory

-- what the change of a number may be answered: outside exactly where it can't be made, with its number and the file's length;
-- want of memory says nothing of it
abbrev pub IsAnswerToOne : {T : Type 0} → Files → Change → ℕ → Result T BatchRefusal → Type 0
IsAnswerToOne files c number (Ok value) = fits files c ≡ true
IsAnswerToOne files c number (Err (Outside index len)) = (fits files c ≡ false) × (index ≡ number) × (len ≡ length_of files (name_of c))
IsAnswerToOne files c number (Err OutOfMemory) = Unit {0}

-- what a list of changes may be answered: outside exactly where it can't be made, with the first change that can't
abbrev pub IsAnswerToAll : {T : Type 0} → Files → List Change → Result T BatchRefusal → Type 0
IsAnswerToAll files changes (Ok value) = (all_fit files changes ≡ true) × (first_outside files changes ≡ None)
IsAnswerToAll files changes (Err (Outside index len)) = (all_fit files changes ≡ false) × (first_outside files changes ≡ Some (index, len))
IsAnswerToAll files changes (Err OutOfMemory) = Unit {0}
