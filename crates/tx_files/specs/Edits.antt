-- Edits of files, as an editor makes them: bytes of one file are taken out at a place and others are put there.
use Rattle.std.specs.Prelude.{◌≡◌, ℕ, ◌+◌, ◌≤◌, Bool, true, false, List, [], ◌++◌, length, take, drop, nat_le, IsSome, Result, Ok, Err, unwrap_or, if◌then◌else◌, fold}
use Rattle.std.specs.FinMap.{insert, remove}
use Rattle.tx_bytes.specs.Files.{Files, content}
use Rattle.tx_files.specs.declared.edit.Edit.{Edit}
use Rattle.tx_files.specs.declared.edit.Refusal.{Refusal}
use Rattle.tx_files.specs.declared.edit.Refusal.TheVariants.{Outside, OutOfMemory}
use Rattle.tx_files.specs.declared.edit.Undo.{Undo}
use Rattle.tx_files.specs.declared.edit.Undo.TheVariants.{Absent, Whole, Part}

-- the bytes of a file, none where it is absent
abbrev pub bytes_of : Files → List ℕ → List ℕ
bytes_of files name = unwrap_or (content files name) []

-- how long a file is, 0 where it is absent
abbrev pub length_of : Files → List ℕ → ℕ
length_of files name = length (bytes_of files name)

-- bytes with so many of them at a place replaced by others
abbrev pub spliced : List ℕ → ℕ → ℕ → List ℕ → List ℕ
spliced bytes place removed put = take place bytes ++ put ++ drop (place + removed) bytes

-- whether what an edit takes out lies within its file
abbrev pub fits_in : Files → Edit → Bool
fits_in files e = nat_le (e.place + e.removed) (length_of files e.name)

-- the files after an edit that fits: it changes the file of its name, or makes it, and leaves all others
abbrev pub edited : Files → Edit → Files
edited files e = insert files e.name (spliced (bytes_of files e.name) e.place e.removed e.put)

-- the files after an edit, which leaves them where it doesn't fit
abbrev pub after_edit : Files → Edit → Files
after_edit files e = if fits_in files e then edited files e else files

-- the files after some edits, one after the other, leaving out those that don't fit
abbrev pub replay : Files → List Edit → Files
replay files edits = fold after_edit files edits

-- what an edit may be answered: outside exactly where it doesn't fit, with the file's length
abbrev pub IsAnswerTo : {T : Type 0} → Files → Edit → Result T Refusal → Type 0
IsAnswerTo files e (Ok value) = fits_in files e ≡ true
IsAnswerTo files e (Err (Outside len)) = (fits_in files e ≡ false) × (len ≡ length_of files e.name)
IsAnswerTo files e (Err OutOfMemory) = fits_in files e ≡ true

-- the files with these bytes of a file in the place of as many others
abbrev pub put_back : Files → List ℕ → ℕ → List ℕ → Files
put_back files name place bytes = insert files name (spliced (bytes_of files name) place (length bytes) bytes)

-- the files with what a file held before put back; it held nothing where it was absent
abbrev pub restored : Files → List ℕ → Undo → Files
restored files name Absent = remove files name
restored files name (Whole bytes) = insert files name bytes
restored files name (Part place bytes) = put_back files name place bytes

-- a file that has room for what it held before
abbrev pub CanRestore : Files → List ℕ → Undo → Type 0
CanRestore files name Absent = IsSome (content files name)
CanRestore files name (Whole bytes) = IsSome (content files name)
CanRestore files name (Part place bytes) = IsSome (content files name) × (place + length bytes ≤ length_of files name)
