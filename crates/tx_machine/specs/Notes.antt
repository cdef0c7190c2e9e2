-- What the reply to an ask shows of the files.
use Rattle.std.specs.Prelude.{ℕ, true, false, List, [], ◌∷◌, Option, Some, None}
use Rattle.tx_bytes.specs.Files.{Files, content}
use Rattle.tx_files.specs.Lines.{next_line_at}
use Rattle.tx_files.specs.declared.line.NextLine.{NextLine}
use Rattle.tx_files.specs.declared.line.NextLine.TheVariants.{Line as LineTo, End as AtEnd}
use Rattle.tx_files.specs.declared.reads.Note.{Note}
use Rattle.tx_files.specs.declared.reads.Sight.{Sight}
use Rattle.tx_files.specs.declared.reads.Sight.TheVariants.{Absent, Opened, Line as LineSeen, End as EndSeen, Whole as WholeSeen}
use Rattle.tx_machine.specs.declared.types.OpenFile.{OpenFile}
use Rattle.tx_event.specs.declared.types.Ask.{Ask}
use Rattle.tx_event.specs.declared.types.Ask.TheVariants.{Open, Line as AskLine, Close, Whole as AskWhole}
use Rattle.tx_machine.specs.Opens.{bytes_of, innermost}

-- a line with its LF shows the bytes up to its end; no line, or one without LF, shows where the file ends
abbrev pub line_sight : NextLine → Sight
line_sight AtEnd = EndSeen
line_sight (LineTo end true) = LineSeen end
line_sight (LineTo end false) = EndSeen

-- of a file by its name: that it isn't there, or what else the ask shows
abbrev pub found_sight : Sight → Option (List ℕ) → Sight
found_sight sight None = Absent
found_sight sight (Some bytes) = sight

-- a line is seen of the innermost file; with no file open nothing is seen
abbrev pub line_notes : Files → Option OpenFile → List Note
line_notes files None = []
line_notes files (Some file) = record { name = file.name; sight = line_sight (next_line_at (bytes_of files file.name) file.offset) } ∷ []

-- what each ask shows
abbrev pub notes_of : Files → List OpenFile → Ask → List Note
notes_of files opens (Open name) = record { name = name; sight = found_sight Opened (content files name) } ∷ []
notes_of files opens AskLine = line_notes files (innermost opens)
notes_of files opens Close = []
notes_of files opens (AskWhole name) = record { name = name; sight = found_sight WholeSeen (content files name) } ∷ []
