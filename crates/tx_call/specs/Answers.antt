-- What a document that is served answers to what comes in.
use Rattle.std.specs.Prelude.{◌≡◌, ◌≢◌, ℕ, false, ◌+◌, List, [], ◌∷◌, ◌++◌, Option, Some, None, unwrap_or, if◌then◌else◌}
use Rattle.tx_io.specs.Output.{Piece, Say}
use Rattle.tx_differing.specs.Differing.{edit_to}
use Rattle.tx_files.specs.declared.edit.Edit.{Edit as FileEdit}
use Rattle.tx_files.specs.declared.edit.Change.{Change}
use Rattle.tx_files.specs.declared.edit.Change.TheVariants.{Edit}
use Rattle.tx_machine.specs.Machine.{Formatter}
use Rattle.tx_script.specs.declared.command.Command.{Command as ScriptCommand}
use Rattle.tx_script.specs.declared.command.Command.TheVariants.{Change as Lone, Batch, Save as SaveAs, Locate}
use Rattle.tx_script.specs.declared.error.Rule.{Rule}
use Rattle.tx_request.specs.declared.request.FileContents.{FileContents}
use Rattle.tx_request.specs.declared.request.Request.{Request}
use Rattle.tx_request.specs.declared.request.Request.TheVariants.{Command, File, Page, Log, LogOf}
use Rattle.tx_request.specs.declared.request.Next.{Next}
use Rattle.tx_request.specs.declared.request.Next.TheVariants.{Asks, Refused}
use Rattle.tx_session.specs.Held.{Held, fresh, transcript}
use Rattle.tx_session.specs.Pages.{page_of, piece_of}
use Rattle.tx_session.specs.Refusals.{may_want}
use Rattle.tx_session.specs.Standing.{Standing, now, settled}
use Rattle.tx_call.specs.Lines.{bytes_text, log_head, memory_line, page_head, page_memory_line, request_refusal_line, saved_line}
use Rattle.tx_call.specs.Replay.{next_moment, pieces_at, turns_at}
use Rattle.tx_call.specs.Sitting.{Sitting, Effect, says, moment_of, edit_effect, effect}

-- of the last run that ended by the end of its text no more changes are made than this
abbrev pub most_changes : ℕ
most_changes = 1000

-- a document before its first request
abbrev pub begun_at : Standing → Sitting
begun_at standing = record { standing = standing; edits = 0; places = 0; outside = false }

abbrev pub begun : Held → Sitting
begun held = begun_at (settled held)

-- the changes that give a file its contents: one edit, or none where it has them
abbrev pub changes_of : Option FileEdit → List Change
changes_of None = []
changes_of (Some e) = Edit e ∷ []

abbrev pub contents_changes : Sitting → FileContents → List Change
contents_changes t f = changes_of (edit_to (now t.standing).files f.name f.contents)

-- behind a save it is said that it was made
abbrev pub saved_answer : ScriptCommand → List Piece
saved_answer (SaveAs name) = Say (saved_line name) ∷ []
saved_answer (Lone c) = []
saved_answer (Batch changes) = []
saved_answer (Locate at) = []

abbrev pub with_answer : Effect → List Piece → Effect
with_answer e pieces = record e { pieces = e.pieces ++ pieces }

-- what a request is answered: a script's command as a script is; each page and the transcript are those of the fresh run on the files
-- as they are by then
abbrev pub answer_to : {S : Type 0} → Formatter S → Sitting → Request → Effect
answer_to m t (Command c) = with_answer (effect m most_changes t c) (saved_answer c)
answer_to m t (File f) = edit_effect m most_changes t false (contents_changes t f)
answer_to m t (Page k) = says t (bytes_text (page_head k) (page_of (fresh m (now t.standing)).ran.pages k))
answer_to m t Log = says t (bytes_text log_head (Some (transcript (fresh m (now t.standing)).ran)))
answer_to m t (LogOf k) = says t (bytes_text log_head (piece_of (fresh m (now t.standing)).ran.pieces k))

-- what is answered where memory is wanting for it: an edit counts then too, and all else is as before; None where the call ends then, and
-- for a change alone that goes past the end of its file, which has its own line
abbrev pub edit_wanting : Sitting → Effect
edit_wanting t = says (record t { edits = t.edits + 1 }) (memory_line (t.edits + 1))

abbrev pub wanting : Sitting → Request → Option Effect
wanting t (Command (Lone c)) = if may_want (now t.standing).files (c ∷ []) then Some (edit_wanting t) else None
wanting t (Command (Batch changes)) = if may_want (now t.standing).files changes then Some (edit_wanting t) else None
wanting t (Command (SaveAs name)) = None
wanting t (Command (Locate at)) = None
wanting t (File f) = Some (edit_wanting t)
wanting t (Page k) = Some (says t (page_memory_line k))
wanting t Log = None
wanting t (LogOf k) = None

-- what comes of what comes in: a request is answered, or memory is wanting for it; or bytes are no request
pub data Event : Type 0 where
  Answered : Request → Event
  Wanting : Request → Event
  Unread : Rule → Event

-- as what it was read
abbrev pub read_as : Event → Next
read_as (Answered r) = Asks r
read_as (Wanting r) = Asks r
read_as (Unread rule) = Refused rule

abbrev pub nothing : Sitting → Effect
nothing t = record { pieces = []; behind = t; turns = 0 }

-- what comes of it; where memory is wanting, the turns are those of the request at most
abbrev pub came : {S : Type 0} → Formatter S → Sitting → Event → Effect
came m t (Answered r) = answer_to m t r
came m t (Wanting r) = record (unwrap_or (wanting t r) (nothing t)) { turns = (answer_to m t r).turns }
came m t (Unread rule) = says t (request_refusal_line rule)

-- memory is wanting only for what takes some
abbrev pub MayCome : Sitting → Event → Type 0
MayCome t (Answered r) = Unit {0}
MayCome t (Wanting r) = wanting t r ≢ None
MayCome t (Unread rule) = Unit {0}

-- it wasn't
abbrev pub IsExact : Event → Type 0
IsExact (Answered r) = Unit {0}
IsExact (Wanting r) = ⊥
IsExact (Unread rule) = Unit {0}

-- the same of all that comes in, one after the other
abbrev pub before_all : Effect → Effect → Effect
before_all first others = record { pieces = first.pieces ++ others.pieces; behind = others.behind; turns = first.turns + others.turns }

abbrev pub all_came : {S : Type 0} → Formatter S → Sitting → List Event → Effect
all_came m t [] = nothing t
all_came m t (e ∷ events) = before_all (came m t e) (all_came m (came m t e).behind events)

abbrev pub AllMayCome : {S : Type 0} → Formatter S → Sitting → List Event → Type 0
AllMayCome m t [] = Unit {0}
AllMayCome m t (e ∷ events) = MayCome t e × AllMayCome m (came m t e).behind events

abbrev pub AreExact : List Event → Type 0
AreExact [] = Unit {0}
AreExact (e ∷ events) = IsExact e × AreExact events

-- The law that binds requests to scripts: behind a request that a script has too, the document is that of the script behind its command,
-- with the same counts; and where no earlier run is kept, what is put out and the turns are those of the script too.
pub record AgreesWithScript {S : Type 0} (m : Formatter S) (t : Sitting) (c : ScriptCommand) : Type 0 where
  pub leads : moment_of (effect m most_changes t c).behind ≡ next_moment (moment_of t) c
  pub says_so : t.standing.since ≡ [] → (effect m most_changes t c).pieces ≡ pieces_at m (moment_of t) c
  pub takes : t.standing.since ≡ [] → (effect m most_changes t c).turns ≡ turns_at m (moment_of t) c
