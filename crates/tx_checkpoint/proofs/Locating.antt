-- An edit at a place of a file leaves the rows before the one by which that place is first read.
use Rattle.std.proofs.Common.{◌≡◌, ℕ, ◌+◌, ◌<◌, ◌≤◌, Bool, true, false, cond, ◌&&◌, List, [], ◌∷◌, ◌++◌, length, refl, sym, ap, ◌∙◌, arith}
use Rattle.std.specs.FinMap.{get}
use Rattle.std.specs.List.{prefix_len}
use Rattle.std.proofs.lemmas.Bool.{eq-eqb, ne_eqb}
use Rattle.std.proofs.lemmas.List.{length-map}
use Rattle.std.proofs.lemmas.List.Folds.{prefix_len-append}
use Rattle.std.proofs.lemmas.List.Sums.{prefix_len-le-length}
use Rattle.tx_files.specs.declared.edit.Edit.{Edit as FileEdit}
use Rattle.tx_files.specs.declared.edit.Change.TheVariants.{Edit}
use Rattle.tx_files.specs.Reads.{leaves}
use Rattle.tx_checkpoint.specs.declared.row.Row.{Row}
use Rattle.tx_checkpoint.specs.declared.row.Last.{Last}
use Rattle.tx_checkpoint.specs.declared.row.Rows.{Rows}
use Rattle.tx_checkpoint.specs.Locate.{passes, located_at, located_in, located}
use Rattle.tx_checkpoint.specs.Meant.{AreRows, rows_meant}
use Rattle.tx_checkpoint.specs.Resume.{resume}
use Rattle.tx_checkpoint.specs.Rows.{History, rows_in}

-- where a place is first read doesn't hang on how a state is meant
passed-meant : {S M : Type 0} (meaning : S → M) (rows : List (Row S)) (name : List ℕ) (place : ℕ) → prefix_len (passes name place) (rows_meant meaning rows) ≡ prefix_len (passes name place) rows
passed-meant meaning [] name place = refl
passed-meant meaning (row ∷ rows) name place = ap (λ n. cond (passes name place row) (1 + n) 0) (passed-meant meaning rows name place)

-- so rows in code that are those of a run tell it
pub located-told : {S M : Type 0} (meaning : S → M) (rows : List (Row S)) {last : Last} (h : History M) (name : List ℕ) (place : ℕ) → rows_meant meaning rows ≡ rows_in h.pages → last ≡ h.last
    → located_in rows last name place ≡ located h name place
located-told meaning rows h name place rows_are last_is =
    let passed : prefix_len (passes name place) rows ≡ prefix_len (passes name place) (rows_in h.pages)
    = sym (passed-meant meaning rows name place) ∙ ap (prefix_len (passes name place)) rows_are in
    let many : length rows ≡ length (rows_in h.pages) = sym (length-map rows _) ∙ ap length rows_are in
    λ i. located_at (passed i) (many i) (leaves (get (last_is i).seen name) place)

pub located-rows : {S M : Type 0} (meaning : S → M) {rows : Rows S} {h : History M} (name : List ℕ) (place : ℕ) → AreRows meaning rows h → located_in rows.rows.items rows.last name place ≡ located h name place
located-rows meaning {rows = rows} {h = h} name place are = located-told meaning rows.rows.items h name place are.rows_are are.last_is

and-true : (b : Bool) → b ≡ (b && true)
and-true true = refl
and-true false = refl

-- behind these rows formatting resumes after an edit there
pub passed-resumes : {S : Type 0} (e : FileEdit) (rows : List (Row S)) → prefix_len (passes e.name e.place) rows ≡ resume rows (Edit e ∷ [])
passed-resumes e [] = refl
passed-resumes e (row ∷ rows) = λ i. cond (and-true (leaves (get row.seen e.name) e.place) i) (1 + passed-resumes e rows i) 0

-- of two parts of some rows: the first one is left in part, or the whole of it and then of the second
pub passed-part : {S : Type 0} (name : List ℕ) (place : ℕ) (first others : List (Row S)) → prefix_len (passes name place) first < length first → prefix_len (passes name place) (first ++ others) ≡ prefix_len (passes name place) first
passed-part name place first others less =
    prefix_len-append (passes name place) first others
    ∙ ap (λ b. cond b (length first + prefix_len (passes name place) others) (prefix_len (passes name place) first)) (ne_eqb (prefix_len (passes name place) first) (length first) (λ same. absurd (omega (arith, less, same))))

pub passed-whole : {S : Type 0} (name : List ℕ) (place : ℕ) (first others : List (Row S)) → length first ≤ prefix_len (passes name place) first → prefix_len (passes name place) (first ++ others) ≡ prefix_len (passes name place) first + prefix_len (passes name place) others
passed-whole name place first others past =
    let all : prefix_len (passes name place) first ≡ length first = omega (arith, past, prefix_len-le-length (passes name place) first) in
    prefix_len-append (passes name place) first others
    ∙ ap (λ b. cond b (length first + prefix_len (passes name place) others) (prefix_len (passes name place) first)) (eq-eqb (prefix_len (passes name place) first) (length first) all)
    ∙ ap (λ n. n + prefix_len (passes name place) others) (sym all)
