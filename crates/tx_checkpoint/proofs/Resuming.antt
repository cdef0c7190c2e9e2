-- Where formatting resumes doesn't hang on how a state is meant.
use Rattle.std.proofs.Common.{◌≡◌, ◌+◌, cond, ◌&&◌, List, [], ◌∷◌, refl, sym, ap, ◌∙◌}
use Rattle.std.specs.List.{list_all}
use Rattle.tx_files.specs.declared.edit.Change.{Change}
use Rattle.tx_files.specs.Reads.{untouched}
use Rattle.tx_checkpoint.specs.declared.row.Row.{Row}
use Rattle.tx_checkpoint.specs.declared.row.Rows.{Rows}
use Rattle.tx_checkpoint.specs.Meant.{AreRows, rows_meant}
use Rattle.tx_checkpoint.specs.Resume.{stays, resume, all_stay, stands}
use Rattle.tx_checkpoint.specs.Rows.{History, rows_in}

pub resume-meant : {S M : Type 0} (meaning : S → M) (rows : List (Row S)) (changes : List Change) → resume (rows_meant meaning rows) changes ≡ resume rows changes
resume-meant meaning [] changes = refl
resume-meant meaning (row ∷ rows) changes = ap (λ n. cond (stays changes row) (1 + n) 0) (resume-meant meaning rows changes)

pub list_all-meant : {S M : Type 0} (meaning : S → M) (rows : List (Row S)) (changes : List Change) → list_all (stays changes) (rows_meant meaning rows) ≡ list_all (stays changes) rows
list_all-meant meaning [] changes = refl
list_all-meant meaning (row ∷ rows) changes = ap (λ b. stays changes row && b) (list_all-meant meaning rows changes)

-- so the rows in code tell where formatting resumes, and whether everything stands
pub resume-rows : {S M : Type 0} (meaning : S → M) {rows : Rows S} {h : History M} (changes : List Change) → AreRows meaning rows h → resume rows.rows.items changes ≡ resume (rows_in h.pages) changes
resume-rows meaning {rows = rows} changes are = sym (resume-meant meaning rows.rows.items changes) ∙ ap (λ kept. resume kept changes) are.rows_are

pub stands-rows : {S M : Type 0} (meaning : S → M) {rows : Rows S} {h : History M} (changes : List Change) → AreRows meaning rows h → all_stay rows.rows.items rows.last changes ≡ stands h changes
stands-rows meaning {rows = rows} {h = h} changes are =
    ap (λ b. b && untouched rows.last.seen changes) (sym (list_all-meant meaning rows.rows.items changes))
    ∙ (λ i. list_all (stays changes) (are.rows_are i) && untouched (are.last_is i).seen changes)
