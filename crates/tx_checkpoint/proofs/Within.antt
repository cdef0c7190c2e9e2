-- Open files whose reads changes leave: an edited one was read up to the edit's place at most, and none was taken away.
use Rattle.std.proofs.Common.{◌≡◌, ℕ, zero, suc, ◌-◌, ◌<◌, ◌≤◌, true, false, List, [], ◌∷◌, length, slice_index_or, Option, Some, None, sym, subst, arith, true≢false}
use Rattle.std.specs.List.{All}
use Rattle.std.proofs.lemmas.Bool.{leb-true}
use Rattle.std.proofs.lemmas.List.Elements.{All-append, All-set, All-take}
use Rattle.std.proofs.lemmas.Option.{slice_get_within, get_or_from_slice_get}
use Rattle.tx_bytes.specs.Files.{Files, content}
use Rattle.tx_files.specs.declared.edit.Change.{Change}
use Rattle.tx_files.specs.declared.edit.Change.TheVariants.{Edit, Remove}
use Rattle.tx_files.specs.declared.line.NextLine.{NextLine}
use Rattle.tx_files.specs.declared.line.NextLine.TheVariants.{Line as LineTo, End as AtEnd}
use Rattle.tx_files.specs.declared.reads.Sight.TheVariants.{Opened, Line as LineSeen, End as EndSeen}
use Rattle.tx_files.specs.Lines.{next_line_at}
use Rattle.tx_event.specs.declared.types.Ask.{Ask}
use Rattle.tx_event.specs.declared.types.Ask.TheVariants.{Open, Line, Close as CloseIt, Whole}
use Rattle.tx_machine.specs.declared.types.OpenFile.{OpenFile}
use Rattle.tx_machine.specs.Notes.{notes_of, line_notes, line_sight, found_sight}
use Rattle.tx_machine.specs.Opens.{bytes_of, innermost, opening, reading_on, reading, whole, reply_to}
use Rattle.tx_checkpoint.proofs.Untouched.{IsLeftBy, AreLeftBy, AreLeft}

-- an open file is the changed one only if it was read up to the edit's place at most
abbrev pub IsWithin : Change → OpenFile → Type 0
IsWithin (Edit e) file = file.name ≡ e.name → file.offset ≤ e.place
IsWithin (Remove gone) file = file.name ≡ gone → ⊥

-- so for each change of a list
abbrev pub AreWithin : List Change → List OpenFile → Type 0
AreWithin [] opens = Unit {0}
AreWithin (c ∷ changes) opens = All (IsWithin c) opens × AreWithin changes opens

pub none-within : (changes : List Change) → AreWithin changes []
none-within [] = tt
none-within (c ∷ changes) = (λ k d below. absurd (omega arith), none-within changes)

-- the innermost of them
pub within-innermost : (P : OpenFile → Type 0) (opens : List OpenFile) (file : OpenFile) → innermost opens ≡ Some file → All P opens → P file
within-innermost P opens file is within =
    let inside : length opens - 1 < length opens = slice_get_within opens (length opens - 1) file is in
    let it : slice_index_or opens (length opens - 1) file ≡ file = get_or_from_slice_get opens (length opens - 1) file file is in
    subst P it (within (length opens - 1) file inside)

one_within : (c : Change) (file : OpenFile) → IsWithin c file → All (IsWithin c) (file ∷ [])
one_within c file within zero d below = within
one_within c file within (suc k) d below = absurd (omega arith)

-- a file that is opened, and one that is read on by a line
opened_within : (c : Change) (name : List ℕ) → IsLeftBy c (record { name = name; sight = Opened }) → IsWithin c (record { name = name; offset = 0 })
opened_within (Edit e) name left = λ same. omega arith
opened_within (Remove gone) name left = λ same. true≢false (sym (left same))

read_within : (c : Change) (file : OpenFile) (end : ℕ) → IsLeftBy c (record { name = file.name; sight = LineSeen end }) → IsWithin c (record file { offset = end })
read_within (Edit e) file end left = λ same. leb-true _ _ (left same)
read_within (Remove gone) file end left = λ same. true≢false (sym (left same))

ended_within : (c : Change) (file : OpenFile) (end : ℕ) → IsLeftBy c (record { name = file.name; sight = EndSeen }) → IsWithin c (record file { offset = end })
ended_within (Edit e) file end left = λ same. absurd (true≢false (sym (left same)))
ended_within (Remove gone) file end left = λ same. true≢false (sym (left same))

module _ (c : Change) (files : Files) where
  opening_within : (opens : List OpenFile) (name : List ℕ) (held : Option (List ℕ)) → All (IsWithin c) opens → IsLeftBy c (record { name = name; sight = found_sight Opened held }) → All (IsWithin c) (opening opens name held).opens
  opening_within opens name None within left = within
  opening_within opens name (Some bytes) within left = All-append (IsWithin c) opens (record { name = name; offset = 0 } ∷ []) within (one_within c (record { name = name; offset = 0 }) (opened_within c name left))

  whole_within : (opens : List OpenFile) (held : Option (List ℕ)) → All (IsWithin c) opens → All (IsWithin c) (whole opens held).opens
  whole_within opens None within = within
  whole_within opens (Some bytes) within = within

  line_within : (opens : List OpenFile) (file : OpenFile) (bytes : List ℕ) (line : NextLine) → All (IsWithin c) opens → IsLeftBy c (record { name = file.name; sight = line_sight line })
      → All (IsWithin c) (reading_on opens file bytes line).opens
  line_within opens file bytes AtEnd within left = within
  line_within opens file bytes (LineTo end true) within left = All-set (IsWithin c) opens (length opens - 1) (record file { offset = end }) (read_within c file end left) within
  line_within opens file bytes (LineTo end false) within left = All-set (IsWithin c) opens (length opens - 1) (record file { offset = end }) (ended_within c file end left) within

  reading_within : (opens : List OpenFile) (file : Option OpenFile) → All (IsWithin c) opens → AreLeftBy c (line_notes files file) → All (IsWithin c) (reading files opens file).opens
  reading_within opens None within left = within
  reading_within opens (Some file) within left = line_within opens file (bytes_of files file.name) (next_line_at (bytes_of files file.name) file.offset) within left.0

  ask_within : (opens : List OpenFile) (ask : Ask) → All (IsWithin c) opens → AreLeftBy c (notes_of files opens ask) → All (IsWithin c) (reply_to files opens ask).opens
  ask_within opens (Open name) within left = opening_within opens name (content files name) within left.0
  ask_within opens Line within left = reading_within opens (innermost opens) within left
  ask_within opens CloseIt within left = All-take (IsWithin c) (length opens - 1) opens within
  ask_within opens (Whole name) within left = whole_within opens (content files name) within

pub ask-within : (changes : List Change) (files : Files) (opens : List OpenFile) (ask : Ask) → AreWithin changes opens → AreLeft changes (notes_of files opens ask) → AreWithin changes (reply_to files opens ask).opens
ask-within [] files opens ask within left = tt
ask-within (c ∷ changes) files opens ask within left = (ask_within c files opens ask within.0 left.0, ask-within changes files opens ask within.1 left.1)
