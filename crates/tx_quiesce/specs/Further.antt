-- What comes behind the pages that are reused, in code.
use Rattle.std.specs.Prelude.{◌≡◌, ℕ, ◌-◌, ◌≤◌, List, length, drop, if◌then◌else◌}
use Rattle.std.specs.List.{All}
use Rattle.tx_files.specs.declared.edit.Change.{Change}
use Rattle.tx_machine.specs.Machine.{Formatter}
use Rattle.tx_checkpoint.specs.declared.row.Row.{Row}
use Rattle.tx_checkpoint.specs.declared.row.Last.{Last}
use Rattle.tx_checkpoint.specs.Meant.{AreRows, AreIdle}
use Rattle.tx_checkpoint.specs.Rows.{History, only, all_turns}
use Rattle.tx_quiesce.specs.declared.further.Further.{Further}
use Rattle.tx_quiesce.specs.declared.further.Further.TheVariants.{Goes, Stands}
use Rattle.tx_quiesce.specs.Limits.{is_page_limit}
use Rattle.tx_quiesce.specs.Moves.{carried_last, CanCarryOpens, CanCarryRow, CanCarryLast}

-- more pages with the stretch after them, or the old last stretch with this end
abbrev pub IsFurther : {S M : Type 0} → (S → M) → List Change → Last → History M → Further S → Type 0
IsFurther meaning changes last h (Goes rows) = AreRows meaning rows h
IsFurther meaning changes last h (Stands end) = h ≡ only (record (carried_last changes last) { end = end })

abbrev pub FurtherIsIdle : {S M : Type 0} → Formatter M → (S → M) → (S → List ℕ) → Further S → Type 0
FurtherIsIdle m meaning pending (Goes rows) = AreIdle m meaning pending rows.rows.items
FurtherIsIdle m meaning pending (Stands end) = Unit {0}

-- turns are taken only where the old run was cut off at the page limit
abbrev pub further_turns : {S : Type 0} → Last → History S → ℕ
further_turns last h = if is_page_limit last.end then all_turns h else 0

-- all that is reused behind a row stands behind the changes, the row's open files included
pub record CanReuse {S : Type 0} (changes : List Change) (number : ℕ) (rows : List (Row S)) (last : Last) : Type 0 where
  pub some : 1 ≤ number
  pub within : number ≤ length rows
  pub opens : All (λ (row : Row S). CanCarryOpens changes row.opens) (drop (number - 1) rows)
  pub rows_can : All (CanCarryRow changes) (drop number rows)
  pub last_can : CanCarryLast changes last
