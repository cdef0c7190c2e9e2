-- What an edit, and what a batch of changes, may be answered.
use Rattle.std.specs.Prelude.{◌≡◌, ℕ, Bool, true, false, List, [], ◌∷◌, Option, Some, None, Result, Ok, Err, if◌then◌else◌}
use Rattle.tx_bytes.specs.Files.{Files}
use Rattle.tx_files.specs.Changes.{name_of, fits, all_fit, first_outside}
use Rattle.tx_files.specs.Edits.{fits_in, length_of}
use Rattle.tx_files.specs.declared.edit.BatchRefusal.{BatchRefusal}
use Rattle.tx_files.specs.declared.edit.BatchRefusal.TheVariants as lists
use Rattle.tx_files.specs.declared.edit.Change.{Change}
use Rattle.tx_files.specs.declared.edit.Edit.{Edit}
use Rattle.tx_session.specs.declared.refusal.Refusal.{Refusal}
use Rattle.tx_session.specs.declared.refusal.Refusal.TheVariants.{Outside, OutOfMemory, BatchOutside}

-- as the files refuse a list of changes, so does the session
abbrev pub refused : BatchRefusal → Refusal
refused (lists.Outside index len) = BatchOutside index len
refused lists.OutOfMemory = OutOfMemory

-- how long the file of a change is, where the change goes past its end; and the same of a change that is all of a list
abbrev pub past_end : Files → Change → Option ℕ
past_end files c = if fits files c then None else Some (length_of files (name_of c))

abbrev pub past_end_alone : Files → List Change → Option ℕ
past_end_alone files [] = None
past_end_alone files (c ∷ []) = past_end files c
past_end_alone files (c ∷ d ∷ changes) = None

-- whether memory may be wanting for a list of changes: for one change alone only where it can be made, since that is looked at first;
-- more of them are made in a copy, for which memory may be wanting before they are looked at
abbrev pub may_want : Files → List Change → Bool
may_want files [] = true
may_want files (c ∷ []) = fits files c
may_want files (c ∷ d ∷ changes) = true

-- an edit: outside exactly where it doesn't fit, with the file's length
abbrev pub IsEditAnswer : {T : Type 0} → Files → Edit → Result T Refusal → Type 0
IsEditAnswer files e (Ok value) = fits_in files e ≡ true
IsEditAnswer files e (Err (Outside len)) = (fits_in files e ≡ false) × (len ≡ length_of files e.name)
IsEditAnswer files e (Err OutOfMemory) = fits_in files e ≡ true
IsEditAnswer files e (Err (BatchOutside index len)) = ⊥

-- a batch: outside exactly where it can't be made, with the first change that can't, and the length of its file then, unless memory
-- was wanting
abbrev pub IsBatchAnswer : {T : Type 0} → Files → List Change → Result T Refusal → Type 0
IsBatchAnswer files changes (Ok value) = (all_fit files changes ≡ true) × (first_outside files changes ≡ None)
IsBatchAnswer files changes (Err (Outside len)) = ⊥
IsBatchAnswer files changes (Err OutOfMemory) = may_want files changes ≡ true
IsBatchAnswer files changes (Err (BatchOutside index len)) = (all_fit files changes ≡ false) × (first_outside files changes ≡ Some (index, len))

-- it was refused for what it says, and not for want of memory
abbrev pub IsOutside : {T : Type 0} → Result T Refusal → Type 0
IsOutside (Ok value) = ⊥
IsOutside (Err (Outside len)) = Unit {0}
IsOutside (Err OutOfMemory) = ⊥
IsOutside (Err (BatchOutside index len)) = Unit {0}
