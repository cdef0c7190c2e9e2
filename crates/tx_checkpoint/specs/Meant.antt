-- What rows in code mean: the rows of a run, their states in the machine's own form.
use Rattle.std.specs.Prelude.{◌≡◌, ℕ, List, [], Some, map, unwrap_or}
use Rattle.std.specs.List.{All}
use Rattle.tx_bytes.specs.Files.{Files}
use Rattle.tx_machine.specs.declared.types.Close.TheVariants.{Page, Spent}
use Rattle.tx_event.specs.Turns.{Ready}
use Rattle.tx_machine.specs.Machine.{Formatter}
use Rattle.tx_machine.specs.declared.spot.Spot.{Spot}
use Rattle.tx_machine.specs.Turn.{Progress}
use Rattle.tx_checkpoint.specs.Resume.{Begun}
use Rattle.tx_checkpoint.specs.declared.row.Row.{Row}
use Rattle.tx_checkpoint.specs.declared.row.Rows.{Rows}
use Rattle.tx_checkpoint.specs.declared.row.Formatted.{Formatted}
use Rattle.tx_checkpoint.specs.declared.row.Formatted.TheVariants.{Page as PageOf, Over}
use Rattle.tx_checkpoint.specs.Rows.{History, rows_in, page_row, only, closed_rows}

-- the same row, its state as it is meant
abbrev pub row_meant : {S M : Type 0} → (S → M) → Row S → Row M
row_meant meaning row = record { turns = row.turns; seen = row.seen; opens = row.opens; state = meaning row.state }

abbrev pub rows_meant : {S M : Type 0} → (S → M) → List (Row S) → List (Row M)
rows_meant meaning rows = map (row_meant meaning) rows

-- rows in code are those of a run: body by body, piece by piece, row by row, and the stretch after them with the end
pub record AreRows {S M : Type 0} (meaning : S → M) (rows : Rows S) (h : History M) : Type 0 where
  pub pages_are : rows.pages.items ≡ map (λ page. page.body) h.pages
  pub pieces_are : rows.pieces.items ≡ map (λ page. page.piece) h.pages
  pub rows_are : rows_meant meaning rows.rows.items ≡ rows_in h.pages
  pub last_is : rows.last ≡ h.last

-- a state from which a page can begin: ready for a turn, and its transcript taken
pub record IsIdle {S M : Type 0} (m : Formatter M) (meaning : S → M) (pending : S → List ℕ) (state : S) : Type 0 where
  pub ready : m.mode (meaning state) ≡ Ready
  pub taken : pending state ≡ []

abbrev pub AreIdle : {S M : Type 0} → Formatter M → (S → M) → (S → List ℕ) → List (Row S) → Type 0
AreIdle m meaning pending rows = All (λ row. IsIdle m meaning pending row.state) rows

-- what was formatted is the page that a stretch led to, or the run's end after it
abbrev pub IsFormatted : {S M : Type 0} → (S → M) → Files → Progress M → Formatted S → Type 0
IsFormatted meaning files t (PageOf body piece row) = (t.close ≡ Some (Page body)) × (record { body = body; piece = piece; row = row_meant meaning row } ≡ page_row t body)
IsFormatted {M = M} meaning files t (Over last) = (later : History M) → closed_rows files t (unwrap_or t.close Spent) later ≡ only last

-- after a page the machine is idle, and the state that is kept with it
abbrev pub FormattedIsIdle : {S M : Type 0} → Formatter M → (S → M) → (S → List ℕ) → Formatted S → S → Type 0
FormattedIsIdle m meaning pending (PageOf body piece row) state = IsIdle m meaning pending row.state × IsIdle m meaning pending state
FormattedIsIdle m meaning pending (Over last) state = Unit {0}

-- where a page begins, in code
abbrev pub begun_of : {S M : Type 0} → (S → M) → Spot S → Begun M
begun_of meaning spot = record { state = meaning spot.state; opens = spot.opens }

-- rows in code that are the same, whatever room is reserved for more
pub record AreSame {S : Type 0} (old new : Rows S) : Type 0 where
  pub pages_are : new.pages.items ≡ old.pages.items
  pub pieces_are : new.pieces.items ≡ old.pieces.items
  pub rows_are : new.rows.items ≡ old.rows.items
  pub last_is : new.last ≡ old.last
