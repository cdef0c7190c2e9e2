-- What comes behind a meeting.
use Rattle.std.specs.Prelude.{◌≡◌, ℕ, ◌-◌, true, List, map, drop, take, length, Option, Some, None, if◌then◌else◌, nat_le, min}
use Rattle.tx_bytes.specs.Files.{Files}
use Rattle.tx_files.specs.declared.edit.Change.{Change}
use Rattle.tx_machine.specs.Machine.{Formatter}
use Rattle.tx_files.specs.Changes.{all_fit, all_changed}
use Rattle.tx_machine.specs.declared.types.Date.{Date}
use Rattle.tx_machine.specs.declared.types.Limits.{Limits}
use Rattle.tx_checkpoint.specs.declared.row.Row.{Row}
use Rattle.tx_checkpoint.specs.declared.row.Last.{Last}
use Rattle.tx_checkpoint.specs.Laws.{AreUntouched}
use Rattle.tx_checkpoint.specs.Resume.{Begun, after_rows, start_of, run_behind}
use Rattle.tx_checkpoint.specs.Rows.{History, rows_in, at_limit, behind, only, rows_from, fresh_rows}
use Rattle.tx_quiesce.specs.Limits.{is_page_limit}
use Rattle.tx_quiesce.specs.Meeting.{Meeting, first_meeting}
use Rattle.tx_quiesce.specs.Moves.{carried_page, carried_opens, last_now}

-- the rest of an old run on the changed files
abbrev pub moved : {S : Type 0} → Files → List Change → History S → History S
moved files changes h = record { pages = map (carried_page changes) h.pages; last = last_now files changes h.last }

-- where it begins: in the same state, with the open files moved
abbrev pub moved_begun : {S : Type 0} → List Change → Begun S → Begun S
moved_begun changes begun = record begun { opens = carried_opens changes begun.opens }

-- how many of its pages there are, for so many at most
abbrev pub reused : {S : Type 0} → ℕ → History S → ℕ
reused most h = min most (length h.pages)

-- what comes behind these: at the page limit nothing; where the old run was cut off there, what is formatted from its last state
-- on; and else the old run's last stretch
abbrev pub further : {S : Type 0} → Formatter S → Files → ℕ → ℕ → Begun S → History S → History S
further m files budget most begun h =
    if nat_le most (length h.pages) then only (at_limit (after_rows begun (rows_in (take most h.pages))).opens)
    else if is_page_limit h.last.end
    then rows_from m files budget (most - length h.pages) (after_rows begun (rows_in h.pages)).state (after_rows begun (rows_in h.pages)).opens
    else only h.last

-- a run behind one of its rows
abbrev pub rest_of : {S : Type 0} → History S → ℕ → History S
rest_of h row = record { pages = drop row h.pages; last = h.last }

-- what comes behind the rows that are kept: all of it is formatted, or what comes up to a meeting, and then the old rest is reused
abbrev pub reused_by : {S : Type 0} → Formatter S → Files → List Change → Begun S → ℕ → ℕ → History S → History S → Option Meeting → History S
reused_by m files changes start budget most old new None = new
reused_by m files changes start budget most old new (Some meeting) =
    let rest = moved files changes (rest_of old meeting.old) in
    let left = most - meeting.formatted in
    behind (take meeting.formatted new.pages) (behind (take (reused left rest) rest.pages)
    (further m files budget left (moved_begun changes (after_rows start (take meeting.old (rows_in old.pages)))) rest))

-- how many old rows are reused from a meeting on: all behind the old row that was met, up to the page limit
abbrev pub reused_rows : ℕ → ℕ → ℕ → Option Meeting → ℕ
reused_rows limit olds resumed None = 0
reused_rows limit olds resumed (Some meeting) = min (limit - resumed - meeting.formatted) (olds - meeting.old)

-- the first meeting behind the rows that are kept
abbrev pub meeting_behind : {S : Type 0} → Formatter S → Files → List Change → List (Row S) → Last → ℕ → List ℕ → Date → Limits → Option Meeting
meeting_behind m files changes rows last kept main date limits =
    first_meeting m changes rows last kept (rows_in (run_behind m files rows kept main date limits).pages)

-- what comes behind the rows that are kept of an old run
abbrev pub made_behind : {S : Type 0} → Formatter S → Files → List Change → List ℕ → Date → Limits → ℕ → History S → History S
made_behind m files changes main date limits kept old =
    reused_by m files changes (start_of m main date) limits.budget (limits.pages - kept) old (run_behind m files (rows_in old.pages) kept main date limits)
    (meeting_behind m files changes (rows_in old.pages) old.last kept main date limits)

-- the run on the changed files from an old run of which the first rows are kept
abbrev pub made_after : {S : Type 0} → Formatter S → Files → List Change → List ℕ → Date → Limits → ℕ → History S → History S
made_after m files changes main date limits kept old = behind (take kept old.pages) (made_behind m files changes main date limits kept old)

-- it is the fresh run on the changed files
abbrev pub ReuseLaw : {S : Type 0} → Formatter S → Type 0
ReuseLaw m = (files : Files) (changes : List Change) (main : List ℕ) (date : Date) (limits : Limits) (k : ℕ) →
    all_fit files changes ≡ true → AreUntouched (rows_in (fresh_rows m files main date limits).pages) k changes →
    fresh_rows m (all_changed files changes) main date limits ≡ made_after m (all_changed files changes) changes main date limits k (fresh_rows m files main date limits)
