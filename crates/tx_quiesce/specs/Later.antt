-- What comes behind the rows that changes leave, in code: pages that were formatted, then old rows that are reused, moved, and
-- what comes further.
use Rattle.std.specs.Prelude.{◌≡◌, ℕ, ◌+◌, ◌-◌, ◌≤◌, List, [], ◌++◌, length, map, take, drop, vec_len, vec_capacity, Option, Some, None}
use Rattle.std.specs.List.{All}
use Rattle.tx_bytes.specs.Files.{Files}
use Rattle.tx_dvi.specs.declared.page.PageBody.{PageBody}
use Rattle.tx_files.specs.declared.edit.Change.{Change}
use Rattle.tx_machine.specs.declared.types.Date.{Date}
use Rattle.tx_machine.specs.declared.types.Limits.{Limits}
use Rattle.tx_machine.specs.Machine.{Formatter}
use Rattle.tx_checkpoint.specs.declared.row.Row.{Row}
use Rattle.tx_checkpoint.specs.declared.row.Rows.{Rows}
use Rattle.tx_checkpoint.specs.declared.row.Last.{Last}
use Rattle.tx_checkpoint.specs.Meant.{AreIdle, rows_meant}
use Rattle.tx_checkpoint.specs.Resume.{Begun, after_rows, start_of, run_behind}
use Rattle.tx_checkpoint.specs.Rows.{History, PageRow, rows_in, behind, turns_of, all_turns}
use Rattle.tx_quiesce.specs.declared.further.Further.{Further}
use Rattle.tx_quiesce.specs.declared.further.Further.TheVariants.{Goes, Stands}
use Rattle.tx_quiesce.specs.declared.later.Later.{Later}
use Rattle.tx_quiesce.specs.declared.later.Part.{Part}
use Rattle.tx_quiesce.specs.Further.{IsFurther, FurtherIsIdle, further_turns}
use Rattle.tx_quiesce.specs.Meeting.{Meeting}
use Rattle.tx_quiesce.specs.Reuse.{moved, moved_begun, rest_of, further, meeting_behind}
use Rattle.tx_quiesce.specs.Moves.{carried_page, carried_row, carried_last, CanCarryRow, CanCarryLast}

-- some pages, then so many pages of an old run behind one of its rows, moved, and what comes further, are these
pub record IsLater {S M : Type 0} (meaning : S → M) (changes : List Change) (old : Rows S) (h : History M) (later : Later S) (whole : History M) : Type 0 where
  pub formatted : List (PageRow M)
  pub more : History M
  pub pages_are : later.front.pages.items ≡ map (λ page. page.body) formatted
  pub pieces_are : later.front.pieces.items ≡ map (λ page. page.piece) formatted
  pub rows_are : rows_meant meaning later.front.rows.items ≡ rows_in formatted
  pub more_is : IsFurther meaning changes old.last more later.further
  pub whole_is : whole ≡ behind formatted (behind (take later.count (map (carried_page changes) (drop later.from h.pages))) more)

-- no page comes further: what was formatted went on to the run's end
abbrev pub HasNoPage : {S : Type 0} → Further S → Type 0
HasNoPage (Goes rows) = (rows.pages.items ≡ []) × (rows.pieces.items ≡ []) × (rows.rows.items ≡ [])
HasNoPage (Stands end) = ⊥

-- the old last stretch, where it is reused, stands behind the changes
abbrev pub CanCarryFurther : {S : Type 0} → List Change → Last → Further S → Type 0
CanCarryFurther changes last (Goes rows) = Unit {0}
CanCarryFurther changes last (Stands end) = CanCarryLast changes last

-- what is reused stands behind the rows that are kept, and behind the changes
pub record FitsBehind {S : Type 0} (changes : List Change) (kept : ℕ) (old : Rows S) (later : Later S) : Type 0 where
  pub order : kept ≤ later.from
  pub within : later.from + later.count ≤ length old.rows.items
  pub rows_can : All (CanCarryRow changes) (take later.count (drop later.from old.rows.items))
  pub last_can : CanCarryFurther changes old.last later.further

abbrev pub LaterIsIdle : {S M : Type 0} → Formatter M → (S → M) → (S → List ℕ) → Later S → Type 0
LaterIsIdle m meaning pending later = AreIdle m meaning pending later.front.rows.items × FurtherIsIdle m meaning pending later.further

-- the turns that it takes: those of what is formatted up to a meeting, and of what is formatted behind the rows that are reused
abbrev pub turns_with : {S : Type 0} → Formatter S → Files → List Change → Begun S → ℕ → ℕ → History S → History S → Option Meeting → ℕ
turns_with m files changes start budget most old new None = all_turns new
turns_with m files changes start budget most old new (Some meeting) =
    turns_of (take meeting.formatted new.pages)
    + further_turns old.last (further m files budget (most - meeting.formatted) (moved_begun changes (after_rows start (take meeting.old (rows_in old.pages)))) (moved files changes (rest_of old meeting.old)))

abbrev pub turns_behind : {S : Type 0} → Formatter S → Files → List Change → List ℕ → Date → Limits → ℕ → History S → ℕ
turns_behind m files changes main date limits kept old =
    turns_with m files changes (start_of m main date) limits.budget (limits.pages - kept) old (run_behind m files (rows_in old.pages) kept main date limits)
    (meeting_behind m files changes (rows_in old.pages) old.last kept main date limits)

-- three lists of one length
pub record AreOfOneLength {S : Type 0} (rows : Rows S) : Type 0 where
  pub pages_are : length rows.pages.items ≡ length rows.rows.items
  pub pieces_are : length rows.pieces.items ≡ length rows.rows.items

-- room in each of three lists for two parts more
pub record HasRoom {S : Type 0} (rows : Rows S) (front more : Part S) : Type 0 where
  pub pages : vec_len rows.pages + vec_len front.pages + vec_len more.pages ≤ vec_capacity rows.pages
  pub pieces : vec_len rows.pieces + vec_len front.pieces + vec_len more.pieces ≤ vec_capacity rows.pieces
  pub rows_are : vec_len rows.rows + vec_len front.rows + vec_len more.rows ≤ vec_capacity rows.rows

-- the first pages, then some, then old ones, moved, and some at the end; the last stretch stays
pub record AreSpliced {S : Type 0} (changes : List Change) (old : Rows S) (kept : ℕ) (front : Part S) (from count : ℕ) (more : Part S) (new : Rows S) : Type 0 where
  pub pages_are : new.pages.items ≡ take kept old.pages.items ++ (front.pages.items ++ (take count (drop from old.pages.items) ++ more.pages.items))
  pub pieces_are : new.pieces.items ≡ take kept old.pieces.items ++ (front.pieces.items ++ (take count (drop from old.pieces.items) ++ more.pieces.items))
  pub rows_are : new.rows.items ≡ take kept old.rows.items ++ (front.rows.items ++ (map (carried_row changes) (take count (drop from old.rows.items)) ++ more.rows.items))
  pub last_is : new.last ≡ old.last

-- the lists of what comes further
abbrev pub pages_of : {S : Type 0} → Further S → List PageBody
pages_of (Goes rows) = rows.pages.items
pages_of (Stands end) = []

abbrev pub pieces_of : {S : Type 0} → Further S → List (List ℕ)
pieces_of (Goes rows) = rows.pieces.items
pieces_of (Stands end) = []

abbrev pub rows_of : {S : Type 0} → Further S → List (Row S)
rows_of (Goes rows) = rows.rows.items
rows_of (Stands end) = []

abbrev pub last_of : {S : Type 0} → List Change → Last → Further S → Last
last_of changes last (Goes rows) = rows.last
last_of changes last (Stands end) = record (carried_last changes last) { end = end }

-- rows in code of which the first are kept, and what comes later stands behind them
pub record AreReused {S : Type 0} (changes : List Change) (old : Rows S) (kept : ℕ) (later : Later S) (new : Rows S) : Type 0 where
  pub pages_are : new.pages.items ≡ take kept old.pages.items ++ (later.front.pages.items ++ (take later.count (drop later.from old.pages.items) ++ pages_of later.further))
  pub pieces_are : new.pieces.items ≡ take kept old.pieces.items ++ (later.front.pieces.items ++ (take later.count (drop later.from old.pieces.items) ++ pieces_of later.further))
  pub rows_are : new.rows.items ≡ take kept old.rows.items ++ (later.front.rows.items ++ (map (carried_row changes) (take later.count (drop later.from old.rows.items)) ++ rows_of later.further))
  pub last_is : new.last ≡ last_of changes old.last later.further
