-- What an edit leaves, by where its place is first read.
use Rattle.std.proofs.Common.{◌≡◌, ℕ, ◌+◌, ◌-◌, ◌≤◌, Bool, true, false, cond, ◌&&◌, nat_lt, List, [], ◌∷◌, length, take, refl, sym, ap, ◌∙◌, subst, arith}
use Rattle.std.specs.FinMap.{get}
use Rattle.std.specs.Prelude.{map}
use Rattle.std.specs.List.{prefix_len, list_all}
use Rattle.std.proofs.lemmas.Bool.{ltb-false, eq-eqb}
use Rattle.std.proofs.lemmas.List.{length-map, take-map}
use Rattle.std.proofs.lemmas.List.Sums.{prefix_len-le-length}
use Rattle.tx_files.specs.Changes.{all_fit}
use Rattle.tx_files.specs.Edits.{fits_in}
use Rattle.tx_files.specs.Reads.{leaves}
use Rattle.tx_files.specs.declared.edit.Edit.{Edit as FileEdit}
use Rattle.tx_files.specs.declared.edit.Change.{Change}
use Rattle.tx_files.specs.declared.edit.Change.TheVariants.{Edit}
use Rattle.tx_machine.specs.Machine.{Formatter}
use Rattle.tx_checkpoint.specs.declared.located.Located.{Located}
use Rattle.tx_checkpoint.specs.declared.located.Located.TheVariants.{Page, After, Nowhere}
use Rattle.tx_checkpoint.specs.Locate.{passes, located}
use Rattle.tx_checkpoint.specs.Resume.{stays, resume, stands}
use Rattle.tx_checkpoint.specs.Rows.{History, PageRow, rows_in, run_of}
use Rattle.tx_checkpoint.proofs.Locating.{passed-resumes}
use Rattle.tx_checkpoint.proofs.Spared.{spared-all}
use Rattle.tx_checkpoint.proofs.Standing.{all-front, resumes-last, prefix-stands, fresh-stands}
use Rattle.tx_session.specs.Held.{Held, fresh, rows_of, edited_session}
use Rattle.tx_session.specs.Locating.{AreLeft, LeavesBy, AllLeaveBy}
use Rattle.tx_session.specs.Report.{resumed_at, meeting_of, formatted_turns, work}
use Rattle.tx_quiesce.specs.Reuse.{reused_rows}
use Rattle.tx_session.proofs.Showing.{fresh-tells}

and-true : {b : Bool} → b ≡ true → (b && true) ≡ true
and-true {b = true} e = refl
and-true {b = false} e = e

module _ {S : Type 0} (m : Formatter S) (held : Held) (e : FileEdit) (fits : fits_in held.files e ≡ true) where
  abbrev changes : List Change
  changes = Edit e ∷ []

  abbrev old : History S
  old = rows_of m held

  abbrev new : History S
  new = rows_of m (edited_session held e)

  -- how many of the rows the edit leaves
  abbrev passed : ℕ
  passed = prefix_len (passes e.name e.place) (rows_in old.pages)

  all_fits : all_fit held.files (Edit e ∷ []) ≡ true
  all_fits = and-true fits

  -- these rows are the same
  same-rows : take passed new.pages ≡ take passed old.pages
  same-rows =
      let same : passed ≡ resume (rows_in old.pages) changes = passed-resumes e (rows_in old.pages) in
      let left : take (resume (rows_in old.pages) changes) new.pages ≡ take (resume (rows_in old.pages) changes) old.pages
      = prefix-stands m held.limits.budget (spared-all changes held.files all_fits) held.limits.pages (resume (rows_in old.pages) changes) (m.start held.date held.main) [] (resumes-last (rows_in old.pages) changes).untouched in
      ap (λ n. take n new.pages) same ∙ left ∙ ap (λ n. take n old.pages) (sym same)

  same-pages : AreLeft passed (fresh m held).ran (fresh m (edited_session held e)).ran
  same-pages = record {
    pages = ap (λ c. take passed c.ran.pages) (fresh-tells m (edited_session held e)) ∙ take-map (λ (page : PageRow S). page.body) passed new.pages
        ∙ ap (λ (pages : List (PageRow S)). map (λ (page : PageRow S). page.body) pages) same-rows
        ∙ sym (take-map (λ (page : PageRow S). page.body) passed old.pages) ∙ sym (ap (λ c. take passed c.ran.pages) (fresh-tells m held));
    pieces = ap (λ c. take passed c.ran.pieces) (fresh-tells m (edited_session held e)) ∙ take-map (λ (page : PageRow S). page.piece) passed new.pages
        ∙ ap (λ (pages : List (PageRow S)). map (λ (page : PageRow S). page.piece) pages) same-rows
        ∙ sym (take-map (λ (page : PageRow S). page.piece) passed old.pages) ∙ sym (ap (λ c. take passed c.ran.pieces) (fresh-tells m held));
  }

  -- where all rows are left they are all pages
  all-passed : nat_lt passed (length (rows_in old.pages)) ≡ false → passed ≡ length (rows_in old.pages)
  all-passed past =
      let least : length (rows_in old.pages) ≤ passed = ltb-false _ _ past in
      let most : passed ≤ length (rows_in old.pages) = prefix_len-le-length (passes e.name e.place) (rows_in old.pages) in
      omega arith

  all-pages : nat_lt passed (length (rows_in old.pages)) ≡ false → passed ≡ length (fresh m held).ran.pages
  all-pages past =
      all-passed past ∙ length-map old.pages (λ page. page.row) ∙ sym (length-map old.pages (λ page. page.body)) ∙ sym (ap (λ c. length c.ran.pages) (fresh-tells m held))

  -- where the last stretch is left too, everything stands
  standing : nat_lt passed (length (rows_in old.pages)) ≡ false → leaves (get old.last.seen e.name) e.place ≡ true → stands old changes ≡ true
  standing past left =
      let same : resume (rows_in old.pages) changes ≡ length (rows_in old.pages) = sym (passed-resumes e (rows_in old.pages)) ∙ all-passed past in
      let rows : list_all (stays changes) (rows_in old.pages) ≡ true = sym (all-front (stays changes) (rows_in old.pages)) ∙ eq-eqb _ _ same in
      λ i. rows i && and-true left i

  nothing-changes : stands old changes ≡ true → fresh m (edited_session held e) ≡ fresh m held
  nothing-changes stand =
      fresh-tells m (edited_session held e) ∙ ap run_of (fresh-stands m held.files changes held.main held.date held.limits all_fits stand) ∙ sym (fresh-tells m held)

  no-work : stands old changes ≡ true → work m held changes ≡ 0
  no-work stand =
      ap (λ b. cond b 0 (formatted_turns (resumed_at old changes) (reused_rows held.limits.pages (length old.pages) (resumed_at old changes) (meeting_of m changes old new)) old new (meeting_of m changes old new))) stand

  leaves-by : LeavesBy m held e (located old e.name e.place)
  leaves-by = by (nat_lt passed (length (rows_in old.pages))) refl (leaves (get old.last.seen e.name) e.place) refl
    where
      by : (a : Bool) → nat_lt passed (length (rows_in old.pages)) ≡ a → (b : Bool) → leaves (get old.last.seen e.name) e.place ≡ b → LeavesBy m held e (cond {A = Located} a (Page (passed + 1)) (cond {A = Located} b Nowhere After))
      by true less b is = let one : passed ≡ passed + 1 - 1 = omega arith in subst (λ n. AreLeft n (fresh m held).ran (fresh m (edited_session held e)).ran) one same-pages
      by false past true left = let stand = standing past left in (nothing-changes stand, no-work stand)
      by false past false left = subst (λ n. AreLeft n (fresh m held).ran (fresh m (edited_session held e)).ran) (all-pages past) same-pages

-- by the name and the place that were asked for
pub all-leave-by : {S : Type 0} (m : Formatter S) (held : Held) (name : List ℕ) (place : ℕ) → AllLeaveBy m held name place (located (rows_of m held) name place)
all-leave-by m held name place e name_is place_is fits =
    subst (λ (at : Located). LeavesBy m held e at) (λ i. located (rows_of m held) (name_is i) (place_is i)) (leaves-by m held e fits)
