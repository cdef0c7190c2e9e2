-- How asks are answered: by the files and by the list of open ones, the innermost last.
use Rattle.std.specs.Prelude.{ℕ, ◌-◌, List, [], ◌∷◌, ◌++◌, length, take, slice_get, slice_set, slice_range, Option, Some, None, unwrap_or}
use Rattle.tx_bytes.specs.Files.{Files, content}
use Rattle.tx_files.specs.Lines.{next_line_at}
use Rattle.tx_files.specs.declared.line.NextLine.{NextLine}
use Rattle.tx_files.specs.declared.line.NextLine.TheVariants.{Line as LineTo, End as AtEnd}
use Rattle.tx_machine.specs.declared.types.OpenFile.{OpenFile}
use Rattle.tx_event.specs.declared.types.Ask.{Ask}
use Rattle.tx_event.specs.declared.types.Ask.TheVariants.{Open, Line as AskLine, Close, Whole as AskWhole}
use Rattle.tx_event.specs.declared.types.Reply.{Reply}
use Rattle.tx_event.specs.declared.types.Reply.TheVariants.{Found, Absent, Line, Ended, Whole, Closed}

-- a reply, and the files that are open after it
pub record Answered : Type 0 where
  pub reply : Reply
  pub opens : List OpenFile

-- the bytes of a file, none where it is absent
abbrev pub bytes_of : Files → List ℕ → List ℕ
bytes_of files name = unwrap_or (content files name) []

-- the innermost open file
abbrev pub innermost : List OpenFile → Option OpenFile
innermost opens = slice_get opens (length opens - 1)

-- the open files, the innermost read up to an offset
abbrev pub moved_to : List OpenFile → OpenFile → ℕ → List OpenFile
moved_to opens file offset = slice_set opens (length opens - 1) (record file { offset = offset })

-- to open a file is to read it from its first byte, inside those that are open
abbrev pub opening : List OpenFile → List ℕ → Option (List ℕ) → Answered
opening opens name None = record { reply = Absent; opens = opens }
opening opens name (Some bytes) = record { reply = Found; opens = opens ++ record { name = name; offset = 0 } ∷ [] }

-- the line that begins at the offset, which moves behind it
abbrev pub reading_on : List OpenFile → OpenFile → List ℕ → NextLine → Answered
reading_on opens file bytes AtEnd = record { reply = Ended; opens = opens }
reading_on opens file bytes (LineTo end has_lf) =
    record { reply = Line (slice_range bytes file.offset end); opens = moved_to opens file end }

-- a line is the innermost file's; with no file open there is none
abbrev pub reading : Files → List OpenFile → Option OpenFile → Answered
reading files opens None = record { reply = Ended; opens = opens }
reading files opens (Some file) =
    reading_on opens file (bytes_of files file.name) (next_line_at (bytes_of files file.name) file.offset)

-- all bytes at once
abbrev pub whole : List OpenFile → Option (List ℕ) → Answered
whole opens None = record { reply = Absent; opens = opens }
whole opens (Some bytes) = record { reply = Whole bytes; opens = opens }

-- the reply to each ask
abbrev pub reply_to : Files → List OpenFile → Ask → Answered
reply_to files opens (Open name) = opening opens name (content files name)
reply_to files opens AskLine = reading files opens (innermost opens)
reply_to files opens Close = record { reply = Closed; opens = take (length opens - 1) opens }
reply_to files opens (AskWhole name) = whole opens (content files name)
