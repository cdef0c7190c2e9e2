-- What a stretch of a run reads of each file, and which changes leave that as it is.
use Rattle.std.specs.Prelude.{ℕ, Bool, true, false, ◌||◌, List, nat_le, max, Option, Some, None, fold}
use Rattle.std.specs.List.{list_all, list_any}
use Rattle.std.specs.Ordering.{nat_cmp}
use Rattle.std.specs.Cmp.Lexicographic.{slice_cmp}
use Rattle.std.specs.FinMap.{FinMap, get, insert, empty}
use Rattle.tx_files.specs.Changes.{name_of}
use Rattle.tx_files.specs.declared.edit.Edit.{Edit as FileEdit}
use Rattle.tx_files.specs.declared.edit.Change.{Change}
use Rattle.tx_files.specs.declared.edit.Change.TheVariants.{Edit, Remove}
use Rattle.tx_files.specs.declared.reads.Sight.{Sight}
use Rattle.tx_files.specs.declared.reads.Sight.TheVariants.{Absent as NotThere, Opened, Line, End, Whole as Taken}
use Rattle.tx_files.specs.declared.reads.Extent.{Extent}
use Rattle.tx_files.specs.declared.reads.Extent.TheVariants.{Absent, Upto, Whole}
use Rattle.tx_files.specs.declared.reads.FileReads.{FileReads}
use Rattle.tx_files.specs.declared.reads.Note.{Note}

-- the reads of a stretch: of each file that it saw, how much, and whether it asked for it by name
abbrev pub Reads : Type 0
Reads = FinMap (slice_cmp nat_cmp) FileReads

-- how much of a file one sight of it reads; to open it reads none of its bytes, a line without LF meets its end
abbrev pub extent_of : Sight → Extent
extent_of NotThere = Absent
extent_of Opened = Upto 0
extent_of (Line end) = Upto end
extent_of End = Whole
extent_of Taken = Whole

-- a file is asked for by name to be opened or taken whole, whether it is there or not
abbrev pub is_asked : Sight → Bool
is_asked NotThere = true
is_asked Opened = true
is_asked (Line end) = false
is_asked End = false
is_asked Taken = true

-- what is read of a file by two readings: absent if one found it so, else whole if one was, else up to the greater offset
abbrev pub together : Extent → Extent → Extent
together Absent later = Absent
together Whole Absent = Absent
together Whole (Upto n) = Whole
together Whole Whole = Whole
together (Upto n) Absent = Absent
together (Upto n) (Upto k) = Upto (max n k)
together (Upto n) Whole = Whole

-- a file's reads with one sight more
abbrev pub seen_more : Option FileReads → Sight → FileReads
seen_more None sight = record { extent = extent_of sight; asked = is_asked sight }
seen_more (Some reads) sight = record { extent = together reads.extent (extent_of sight); asked = reads.asked || is_asked sight }

-- the reads with one note more
abbrev pub noted : Reads → Note → Reads
noted reads note = insert reads note.name (seen_more (get reads note.name) note.sight)

-- the reads with the notes of a log
abbrev pub noting : Reads → List Note → Reads
noting reads log = fold noted reads log

-- the reads of a stretch with this log
abbrev pub reads_of : List Note → Reads
reads_of log = noting empty log

-- whether all that was read of a file lies before a place in it
abbrev pub lies_before : Extent → ℕ → Bool
lies_before Absent place = false
lies_before (Upto n) place = nat_le n place
lies_before Whole place = false

abbrev pub leaves : Option FileReads → ℕ → Bool
leaves None place = true
leaves (Some reads) place = lies_before reads.extent place

-- whether an edit leaves what was read as it is: its file wasn't seen, or was read up to the edit's place at most
abbrev pub untouched_by_edit : Reads → FileEdit → Bool
untouched_by_edit reads e = leaves (get reads e.name) e.place

-- whether a file wasn't seen
abbrev pub is_unseen : Option FileReads → Bool
is_unseen None = true
is_unseen (Some reads) = false

-- whether a change leaves what was read as it is: to take a file away does exactly where it wasn't seen
abbrev pub untouched_by : Reads → Change → Bool
untouched_by reads (Edit e) = untouched_by_edit reads e
untouched_by reads (Remove name) = is_unseen (get reads name)

-- whether each change of a list does
abbrev pub untouched : Reads → List Change → Bool
untouched reads changes = list_all (λ c. untouched_by reads c) changes

-- whether a file was asked for by its name, to be opened or taken whole
abbrev pub was_asked : Option FileReads → Bool
was_asked None = false
was_asked (Some reads) = reads.asked

abbrev pub asks_for : Reads → List ℕ → Bool
asks_for reads name = was_asked (get reads name)

-- whether one of the files that are changed was
abbrev pub asks_for_any : Reads → List Change → Bool
asks_for_any reads changes = list_any (λ c. asks_for reads (name_of c)) changes
