-- What the commands of a script put out, one after the other, over a session.
use Rattle.std.specs.Prelude.{◌≡◌, ℕ, ◌+◌, Bool, true, false, List, [], ◌∷◌, ◌++◌, length, take, slice_get, fold, Option, Some, None, Result, Ok, Err, if◌then◌else◌}
use Rattle.tx_io.specs.Output.{Output, Piece, Say, told}
use Rattle.tx_io.specs.Cut.{IsCutShort}
use Rattle.tx_bytes.specs.Files.{Files}
use Rattle.tx_files.specs.Changes.{all_fit, first_outside}
use Rattle.tx_files.specs.declared.edit.Change.{Change}
use Rattle.tx_machine.specs.declared.types.End.{End as RunEnd}
use Rattle.tx_machine.specs.declared.types.End.TheVariants.{End, Error, Budget, PageLimit}
use Rattle.tx_machine.specs.Machine.{Formatter}
use Rattle.tx_script.specs.declared.command.Command.{Command}
use Rattle.tx_script.specs.declared.command.Command.TheVariants.{Change as Lone, Batch, Save as SaveAs, Locate}
use Rattle.tx_checkpoint.specs.Locate.{located}
use Rattle.tx_session.specs.Held.{Held, fresh, rows_of, changed_session, after_all}
use Rattle.tx_session.specs.Refusals.{may_want}
use Rattle.tx_session.specs.Report.{report, turns_of_changes}
use Rattle.tx_call.specs.declared.trouble.Interruption.{Interruption}
use Rattle.tx_call.specs.declared.trouble.Interruption.TheVariants.{Trouble as Interrupted, RefusedEdit}
use Rattle.tx_call.specs.Lines.{edit_line, outside_line, batch_outside_line, memory_line, locate_line}
use Rattle.tx_call.specs.Pieces.{saved_pieces}

-- where a replay stands: the document, how many edits were read and how many places were asked for, and whether an edit went past the
-- end of its file; a batch is one edit, and so is a removal
pub record Moment : Type 0 where
  pub held : Held
  pub edits : ℕ
  pub places : ℕ
  pub outside : Bool

-- a document before its first edit
abbrev pub opened : Held → Moment
opened held = record { held = held; edits = 0; places = 0; outside = false }

-- a command that memory may refuse: a change that can be made, or a batch, unless that is one change which can't; a batch of more is made
-- in a copy, for which memory may be wanting before its changes are looked at
abbrev pub MayWant : Files → Command → Type 0
MayWant files (Lone c) = may_want files (c ∷ []) ≡ true
MayWant files (Batch changes) = may_want files changes ≡ true
MayWant files (SaveAs name) = ⊥
MayWant files (Locate at) = ⊥

-- the moment after a list of changes, which are left out as a whole where they can't be made, and after a command
abbrev pub next_made : Moment → List Change → Moment
next_made t changes = record {
  held = after_all t.held changes;
  edits = t.edits + 1;
  places = t.places;
  outside = if all_fit t.held.files changes then t.outside else true;
}

abbrev pub next_moment : Moment → Command → Moment
next_moment t (Lone c) = next_made t (c ∷ [])
next_moment t (Batch changes) = next_made t changes
next_moment t (SaveAs name) = t
next_moment t (Locate at) = record t { places = t.places + 1 }

-- what is said where the change of this number goes past the end of its file, which has so many bytes then: of a batch, or of
-- a change alone
abbrev pub refused_line : Bool → ℕ → ℕ × ℕ → List ℕ
refused_line together number first = if together then batch_outside_line number first.0 first.1 else outside_line number first.1

-- what is said of a list of changes, by the first of them that can't be made
abbrev pub line_by : {S : Type 0} → Formatter S → Moment → Bool → List Change → Option (ℕ × ℕ) → List ℕ
line_by m t together changes None = edit_line (t.edits + 1) (report m t.held changes) (fresh m (changed_session t.held changes)).ran.end
line_by m t together changes (Some first) = refused_line together (t.edits + 1) first

abbrev pub line_of : {S : Type 0} → Formatter S → Moment → Bool → List Change → List ℕ
line_of m t together changes = line_by m t together changes (first_outside t.held.files changes)

-- what a command puts out, and the turns that it takes
abbrev pub pieces_at : {S : Type 0} → Formatter S → Moment → Command → List Piece
pieces_at m t (Lone c) = Say (line_of m t false (c ∷ [])) ∷ []
pieces_at m t (Batch changes) = Say (line_of m t true changes) ∷ []
pieces_at m t (SaveAs name) = saved_pieces name (fresh m t.held).ran
pieces_at m t (Locate at) = Say (locate_line (t.places + 1) (length (fresh m t.held).ran.pages) (located (rows_of m t.held) at.name at.place)) ∷ []

abbrev pub turns_at : {S : Type 0} → Formatter S → Moment → Command → ℕ
turns_at m t (Lone c) = turns_of_changes m t.held (c ∷ [])
turns_at m t (Batch changes) = turns_of_changes m t.held changes
turns_at m t (SaveAs name) = 0
turns_at m t (Locate at) = 0

-- the same of commands one after the other
abbrev pub moment_after : Moment → List Command → Moment
moment_after t commands = fold next_moment t commands

abbrev pub pieces_from : {S : Type 0} → Formatter S → Moment → List Command → List Piece
pieces_from m t [] = []
pieces_from m t (c ∷ commands) = pieces_at m t c ++ pieces_from m (next_moment t c) commands

abbrev pub turns_from : {S : Type 0} → Formatter S → Moment → List Command → ℕ
turns_from m t [] = 0
turns_from m t (c ∷ commands) = turns_at m t c + turns_from m (next_moment t c) commands

-- what is put out where memory refuses the next edit: its line, and then what there was before it
abbrev pub refused_pieces : {S : Type 0} → Formatter S → List ℕ → Moment → List Piece
refused_pieces m out t = Say (memory_line (t.edits + 1)) ∷ saved_pieces out (fresh m t.held).ran

-- what a command put out by how it went: all its pieces, or the first of them, or of those for its refusal
abbrev pub Puts : {T : Type 0} → List Piece → List Piece → Result T Interruption → Option Output → Option Output → Type 0
Puts pieces refused (Ok value) before after = after ≡ told before pieces
Puts pieces refused (Err (Interrupted trouble)) before after = IsCutShort before pieces after
Puts pieces refused (Err RefusedEdit) before after = IsCutShort before refused after

-- what is put out where memory refuses an edit: the pieces of all that comes before it, and then those for the refusal
pub record Refusal : Type 0 where
  pub before_it : List Piece
  pub of_it : List Piece

-- what is put out where memory refuses the edit at a place of the commands: all pieces of the commands before it, and then
-- its line and what there was before it; None where no edit stands there that memory may refuse: of a change alone that goes past the end
-- of its file, as that is by then, its own line says so
abbrev pub refusal_of : Files → Option Command → Refusal → Option Refusal
refusal_of files None refusal = None
refusal_of files (Some (SaveAs name)) refusal = None
refusal_of files (Some (Locate at)) refusal = None
refusal_of files (Some (Lone c)) refusal = if may_want files (c ∷ []) then Some refusal else None
refusal_of files (Some (Batch changes)) refusal = if may_want files changes then Some refusal else None

abbrev pub refusal_at : {S : Type 0} → Formatter S → List ℕ → Moment → List Command → ℕ → Option Refusal
refusal_at m out t commands made =
    refusal_of (moment_after t (take made commands)).held.files (slice_get commands made)
    (record { before_it = pieces_from m t (take made commands); of_it = refused_pieces m out (moment_after t (take made commands)) })

-- the same with a piece that comes before all commands
abbrev pub refusal_behind : Piece → Refusal → Refusal
refusal_behind first refusal = record { before_it = first ∷ refusal.before_it; of_it = refusal.of_it }

-- memory refused an edit: all that comes before it was put out whole, and of the pieces for the refusal the first ones were
pub record IsRefused (refusal : ℕ → Option Refusal) (before after : Option Output) : Type 0 where
  pub made : ℕ
  pub pieces : Refusal
  pub are : refusal made ≡ Some pieces
  pub cut : IsCutShort (told before pieces.before_it) pieces.of_it after

-- what commands put out by how they went
abbrev pub Replays : {T : Type 0} → List Piece → (ℕ → Option Refusal) → Result T Interruption → Option Output → Option Output → Type 0
Replays pieces refusal (Ok value) before after = after ≡ told before pieces
Replays pieces refusal (Err (Interrupted trouble)) before after = IsCutShort before pieces after
Replays pieces refusal (Err RefusedEdit) before after = IsRefused refusal before after

-- the status after all commands: whether the last run ended by the end of its text, and whether all edits were made
abbrev pub status_after : RunEnd → Bool → ℕ
status_after End false = 0
status_after End true = 5
status_after (Error code name line) outside = 1
status_after Budget outside = 1
status_after PageLimit outside = 1
