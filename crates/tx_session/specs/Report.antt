-- What a list of changes that was made is answered, and the turns that it takes.
use Rattle.std.specs.Prelude.{◌≡◌, ℕ, ◌+◌, ◌-◌, ◌≤◌, true, drop, take, slice_get, List, [], ◌∷◌, length, Option, Some, None, if◌then◌else◌}
use Rattle.tx_files.specs.Changes.{all_fit}
use Rattle.tx_files.specs.Edits.{fits_in}
use Rattle.tx_files.specs.declared.edit.Edit.{Edit as FileEdit}
use Rattle.tx_files.specs.declared.edit.Change.{Change}
use Rattle.tx_files.specs.declared.edit.Change.TheVariants.{Edit}
use Rattle.tx_machine.specs.Machine.{Formatter}
use Rattle.tx_machine.specs.Steps.{raised}
use Rattle.tx_session.specs.declared.report.Report.{Report}
use Rattle.tx_checkpoint.specs.Resume.{resume, stands}
use Rattle.tx_checkpoint.specs.Rows.{History, rows_in, turns_of}
use Rattle.tx_quiesce.specs.Limits.{is_page_limit}
use Rattle.tx_quiesce.specs.Meeting.{Meeting, first_meeting}
use Rattle.tx_quiesce.specs.Reuse.{reused_rows}
use Rattle.tx_session.specs.Held.{Held, rows_of, changed_session, after, replayed}

-- a document of so many pages: after how many of the first formatting resumed, and how many of the last were reused; all others
-- were formatted
abbrev pub report_of : ℕ → ℕ → ℕ → Report
report_of pages resumed reused = record { pages = pages; resumed = resumed; formatted = pages - resumed - reused; reused = reused }

-- the row at which formatting resumes
abbrev pub resumed_at : {S : Type 0} → History S → List Change → ℕ
resumed_at old changes = resume (rows_in old.pages) changes

-- the first meeting: of a new row behind this one with an old row
abbrev pub meeting_of : {S : Type 0} → Formatter S → List Change → History S → History S → Option Meeting
meeting_of m changes old new = first_meeting m changes (rows_in old.pages) old.last (resumed_at old changes) (rows_in (drop (resumed_at old changes) new.pages))

-- the report of changes, by the run before them and the run on the changed files: everything stands, or else formatting resumed
abbrev pub report_by : {S : Type 0} → Formatter S → List Change → ℕ → History S → History S → Report
report_by m changes limit old new =
    if stands old changes then report_of (length new.pages) (length new.pages) 0
    else report_of (length new.pages) (resumed_at old changes) (reused_rows limit (length old.pages) (resumed_at old changes) (meeting_of m changes old new))

abbrev pub report : {S : Type 0} → Formatter S → Held → List Change → Report
report m held changes = report_by m changes held.limits.pages (rows_of m held) (rows_of m (changed_session held changes))

-- the turns of a run behind its first rows, those of the last stretch among them
abbrev pub turns_from : {S : Type 0} → ℕ → History S → ℕ
turns_from rows h = turns_of (drop rows h.pages) + h.last.turns

-- the turns of what is formatted behind a row: without a meeting of all that follows; else of the rows up to the meeting, and,
-- where the old run was cut off at the page limit, of what follows the rows that are reused
abbrev pub formatted_turns : {S : Type 0} → ℕ → ℕ → History S → History S → Option Meeting → ℕ
formatted_turns resumed reused old new None = turns_from resumed new
formatted_turns resumed reused old new (Some meeting) =
    turns_of (take meeting.formatted (drop resumed new.pages))
    + (if is_page_limit old.last.end then turns_from (resumed + meeting.formatted + reused) new else 0)

-- the work of changes: none where everything stands, and else the turns of what is formatted
abbrev pub work_by : {S : Type 0} → Formatter S → List Change → ℕ → History S → History S → ℕ
work_by m changes limit old new =
    let meeting = meeting_of m changes old new in
    if stands old changes then 0 else formatted_turns (resumed_at old changes) (reused_rows limit (length old.pages) (resumed_at old changes) meeting) old new meeting

abbrev pub work : {S : Type 0} → Formatter S → Held → List Change → ℕ
work m held changes = work_by m changes held.limits.pages (rows_of m held) (rows_of m (changed_session held changes))

-- the turns of a list of changes, none where it can't be made
abbrev pub turns_of_changes : {S : Type 0} → Formatter S → Held → List Change → ℕ
turns_of_changes m held changes = if all_fit held.files changes then work m held changes else 0

-- the turns of an edit, none where it doesn't fit, and of edits one after the other
abbrev pub turns_of_edit : {S : Type 0} → Formatter S → Held → FileEdit → ℕ
turns_of_edit m held e = if fits_in held.files e then work m held (Edit e ∷ []) else 0

abbrev pub turns_of_edits : {S : Type 0} → Formatter S → Held → List FileEdit → ℕ
turns_of_edits m held [] = 0
turns_of_edits m held (e ∷ edits) = turns_of_edit m held e + turns_of_edits m (after held e) edits

-- memory was wanting for one of some edits: it fits, those before it were made, but for those that don't fit, and no more turns were
-- taken than theirs and its own
pub record IsStopped {S : Type 0} (m : Formatter S) (edits : List FileEdit) (begun here : Held) (steps steps' : ℕ) : Type 0 where
  pub made : ℕ
  pub wanting : FileEdit
  pub is_next : slice_get edits made ≡ Some wanting
  pub held_is : here ≡ replayed begun (take made edits)
  pub fits : fits_in here.files wanting ≡ true
  pub most : steps' ≤ raised steps (turns_of_edits m begun (take (made + 1) edits))
