-- A run as rows: what each stretch of turns that shipped a page gave, and the stretch after the last of them.
use Rattle.std.specs.Prelude.{ℕ, suc, zero, ◌+◌, List, [], ◌∷◌, ◌++◌, map, unwrap_or}
use Rattle.std.specs.FinMap.{empty}
use Rattle.tx_bytes.specs.Files.{Files}
use Rattle.tx_dvi.specs.declared.page.PageBody.{PageBody}
use Rattle.tx_files.specs.Reads.{reads_of}
use Rattle.tx_machine.specs.declared.types.Close.{Close}
use Rattle.tx_machine.specs.declared.types.Close.TheVariants.{Page, Halt, Spent}
use Rattle.tx_machine.specs.declared.types.Date.{Date}
use Rattle.tx_machine.specs.declared.types.End.{End as RunEnd}
use Rattle.tx_machine.specs.declared.types.End.TheVariants.{Budget, PageLimit}
use Rattle.tx_machine.specs.declared.types.Limits.{Limits}
use Rattle.tx_machine.specs.declared.types.OpenFile.{OpenFile}
use Rattle.tx_machine.specs.Machine.{Formatter}
use Rattle.tx_machine.specs.Turn.{Progress, stretch}
use Rattle.tx_machine.specs.Run.{Counted, end_of, page_start}
use Rattle.tx_checkpoint.specs.declared.row.Row.{Row}
use Rattle.tx_checkpoint.specs.declared.row.Last.{Last}

-- a page with its piece of the transcript, and with what is kept beside them: the turns since the page before it, what
-- they read, and the open files and the state after it
pub record PageRow (S : Type 0) : Type 0 where
  pub body : PageBody
  pub piece : List ℕ
  pub row : Row S

-- a run by its pages, and by the stretch after them
pub record History (S : Type 0) : Type 0 where
  pub pages : List (PageRow S)
  pub last : Last

-- the page that some turns led to
abbrev pub page_row : {S : Type 0} → Progress S → PageBody → PageRow S
page_row t body = record { body = body; piece = t.said; row = record { turns = t.turns; seen = reads_of t.log; opens = t.place.opens; state = t.place.state } }

-- the rows of some pages
abbrev pub rows_in : {S : Type 0} → List (PageRow S) → List (Row S)
rows_in pages = map (λ page. page.row) pages

-- the stretch that ends a run
abbrev pub last_of : {S : Type 0} → Progress S → RunEnd → Last
last_of t end = record { piece = t.said; turns = t.turns; seen = reads_of t.log; opens = t.place.opens; end = end }

-- at the page limit no turn is taken any more
abbrev pub at_limit : List OpenFile → Last
at_limit opens = record { piece = []; turns = 0; seen = empty; opens = opens; end = PageLimit }

-- some pages and then others
abbrev pub behind : {S : Type 0} → List (PageRow S) → History S → History S
behind pages later = record { pages = pages ++ later.pages; last = later.last }

-- a run that ends without a page more
abbrev pub only : {S : Type 0} → Last → History S
only last = record { pages = []; last = last }

-- what a stretch's close makes of the pages behind it: a page comes before them, all else ends the run
abbrev pub closed_rows : {S : Type 0} → Files → Progress S → Close → History S → History S
closed_rows files t (Page body) later = behind (page_row t body ∷ []) later
closed_rows files t (Halt stop) later = only (last_of t (end_of files t.place.opens stop))
closed_rows files t Spent later = only (last_of t Budget)

-- the rows from a state on, for so many pages at most
unfoldable pub rows_from : {S : Type 0} → Formatter S → Files → ℕ → ℕ → S → List OpenFile → History S
rows_from m files budget zero state opens = only (at_limit opens)
rows_from m files budget (suc pages) state opens =
    let t = stretch m files (page_start state opens budget) in
    closed_rows files t (unwrap_or t.close Spent) (rows_from m files budget pages t.place.state t.place.opens)

-- the rows of the fresh run of a main file on this date; the start, which is before the first row, is the same for all files
abbrev pub fresh_rows : {S : Type 0} → Formatter S → Files → List ℕ → Date → Limits → History S
fresh_rows m files main date limits = rows_from m files limits.budget limits.pages (m.start date main) []

-- all turns of some pages
abbrev pub turns_of : {S : Type 0} → List (PageRow S) → ℕ
turns_of [] = 0
turns_of (page ∷ pages) = page.row.turns + turns_of pages

-- all turns of a run
abbrev pub all_turns : {S : Type 0} → History S → ℕ
all_turns h = turns_of h.pages + h.last.turns

-- the run that has these pages
abbrev pub run_of : {S : Type 0} → History S → Counted
run_of h = record {
  ran = record { pages = map (λ page. page.body) h.pages; pieces = map (λ page. page.piece) h.pages; last = h.last.piece; end = h.last.end };
  turns = all_turns h;
}
