-- All that is reused behind a meeting stands behind the changes, and offsets still tell of it after each.
use Rattle.std.proofs.Common.{◌≡◌, ℕ, zero, suc, ◌+◌, ◌-◌, ◌^◌, ◌<◌, ◌≤◌, Bool, true, false, cond, List, [], ◌∷◌, ◌++◌, length, map, take, drop, Option, Some, None, refl, sym, ap, ◌∙◌, subst, arith, true≢false, unwrap_or, length-drop}
use Rattle.std.specs.Cmp.Lexicographic.{bytes_decides}
use Rattle.std.specs.FinMap.{get, remove}
use Rattle.std.specs.List.{All, AllZip}
use Rattle.std.specs.Str.{bytes_eq}
use Rattle.std.proofs.lemmas.Bool.{leb-true, and_parts}
use Rattle.std.proofs.lemmas.List.{length-append, length-map, length-take-le}
use Rattle.tx_bytes.specs.Files.{Files}
use Rattle.tx_files.specs.Changes.{name_of, fits, changed, all_fit, all_changed, AreSmall}
use Rattle.tx_files.specs.declared.edit.Edit.{Edit as FileEdit}
use Rattle.tx_files.specs.declared.edit.Change.{Change}
use Rattle.tx_files.specs.declared.edit.Change.TheVariants.{Edit, Remove}
use Rattle.tx_files.specs.declared.reads.Extent.{Extent}
use Rattle.tx_files.specs.declared.reads.Extent.TheVariants.{Absent, Upto, Whole}
use Rattle.tx_files.specs.declared.reads.FileReads.{FileReads}
use Rattle.tx_files.specs.Edits.{edited, spliced}
use Rattle.tx_files.specs.Shift.{shifted, IsBehind, CanShift, CanShiftExtent, CanShiftReads}
use Rattle.tx_machine.specs.declared.types.Date.{Date}
use Rattle.tx_machine.specs.declared.types.Limits.{Limits}
use Rattle.tx_machine.specs.declared.types.OpenFile.{OpenFile}
use Rattle.tx_machine.specs.Machine.{Formatter}
use Rattle.tx_machine.specs.Opens.{bytes_of}
use Rattle.tx_checkpoint.specs.declared.row.Row.{Row}
use Rattle.tx_checkpoint.specs.declared.row.Last.{Last}
use Rattle.tx_checkpoint.specs.Meant.{row_meant, rows_meant}
use Rattle.tx_checkpoint.specs.Resume.{Begun, after_rows, start_of, run_behind}
use Rattle.tx_checkpoint.specs.Rows.{History, PageRow, rows_in, rows_from, fresh_rows}
use Rattle.tx_checkpoint.proofs.Edited.{Edited, edited-is}
use Rattle.tx_checkpoint.proofs.Removed.{removed-others}
use Rattle.tx_quiesce.specs.Further.{CanReuse}
use Rattle.tx_quiesce.specs.Meeting.{Meeting, opens_fit, rest_asks, rest_asks_any}
use Rattle.tx_quiesce.specs.Moves.{opens_by, carried_page, CanMoveOpens, CanMoveReads, CanCarryOpens, CanCarryRow, CanCarryLast}
use Rattle.tx_quiesce.specs.Reuse.{moved, rest_of, meeting_behind}
use Rattle.tx_quiesce.specs.Shift.{shifted_file, shifted_opens, CanShiftFile}
use Rattle.tx_quiesce.proofs.Behind.{BehindBy, AreBehind, all-of, others-of, opens-so}
use Rattle.tx_quiesce.proofs.Found.{row_begun, drop-map, old_rest, FoundOld, found_row, FoundNew, found_new}
use Rattle.tx_quiesce.proofs.Inside.{IsInside, StaysInside, ExtentInside, HeldInside, ReadInside, rows-inside}
use Rattle.tx_quiesce.proofs.KinRows.{PageKin, LastKin, HistoryKin}
use Rattle.tx_quiesce.proofs.Moved.{FileBehind, FileShifts, IsOther, moved-kin}
use Rattle.tx_quiesce.proofs.AllMoved.{asks-parts, rest-by, moved-by}
use Rattle.tx_quiesce.proofs.Shifted.{ExtentBehind, HeldBehind, ReadsShift}

-- a row, and a last stretch, that a change moves or leaves
record CanMoveRow {S : Type 0} (c : Change) (row : Row S) : Type 0 where
  opens : CanMoveOpens c row.opens
  seen : CanMoveReads c row.seen

record CanMoveLast (c : Change) (last : Last) : Type 0 where
  opens : CanMoveOpens c last.opens
  seen : CanMoveReads c last.seen

-- how long the edited file is
edited_size : {before after : Files} {e : FileEdit} → Edited before after e → e.place + e.removed ≤ length (bytes_of before e.name) → length (bytes_of after e.name) ≡ length (bytes_of before e.name) - e.removed + length e.put
edited_size {before = before} {after = after} {e = e} edit within =
    let bytes : List ℕ = bytes_of before e.name in
    let here : length (bytes_of after e.name) ≡ length (spliced bytes e.place e.removed e.put) = ap (λ held. length (unwrap_or held [])) edit.here in
    let first : length (take e.place bytes ++ e.put ++ drop (e.place + e.removed) bytes) ≡ length (take e.place bytes ++ e.put) + length (drop (e.place + e.removed) bytes) = length-append (take e.place bytes ++ e.put) (drop (e.place + e.removed) bytes) in
    let second : length (take e.place bytes ++ e.put) ≡ length (take e.place bytes) + length e.put = length-append (take e.place bytes) e.put in
    let front : length (take e.place bytes) ≡ e.place = length-take-le e.place bytes (omega arith) in
    let rest : length (drop (e.place + e.removed) bytes) ≡ length bytes - (e.place + e.removed) = length-drop (e.place + e.removed) bytes in
    omega arith

module _ {before after : Files} {e : FileEdit} (edit : Edited before after e) (within : e.place + e.removed ≤ length (bytes_of before e.name)) (small : length (bytes_of after e.name) < 2 ^ 64) where
  can_offset : (offset : ℕ) → IsBehind e offset → offset ≤ length (bytes_of before e.name) → CanShift e offset
  can_offset offset behind inside =
      let size : length (bytes_of after e.name) ≡ length (bytes_of before e.name) - e.removed + length e.put = edited_size edit within in
      (behind, let past : e.place + e.removed ≤ offset = behind in omega (arith, small))

  can_file : (file : OpenFile) → FileBehind e file → IsInside before file → CanShiftFile e file
  can_file file behind inside is =
      can_offset file.offset (behind is) (subst (λ a. file.offset ≤ length (bytes_of before a)) ((bytes_decides file.name e.name).0 is) inside)

  can_files : (opens : List OpenFile) → All (FileBehind e) opens → All (IsInside before) opens → All (CanShiftFile e) opens
  can_files opens behind inside k d below = can_file _ (behind k d below) (inside k d below)

  can_extent : (extent : Extent) → ExtentBehind e extent → ExtentInside (length (bytes_of before e.name)) extent → CanShiftExtent e extent
  can_extent Absent behind inside = tt
  can_extent (Upto n) behind inside = can_offset n behind inside
  can_extent Whole behind inside = tt

  can_held : (held : Option FileReads) → HeldBehind e held → HeldInside (length (bytes_of before e.name)) held → CanShiftReads e held
  can_held None behind inside = tt
  can_held (Some reads) behind inside = can_extent reads.extent behind inside

  -- related open files that stand behind the edit, and within their files
  files_behind : (olds news : List OpenFile) → AllZip (FileShifts e) olds news → All (FileBehind e) olds
  files_behind [] news zip = λ k d below. absurd (omega arith)
  files_behind (file ∷ olds) [] zip = absurd zip
  files_behind (file ∷ olds) (new ∷ news) zip = all-of (FileBehind e) file olds zip.0.behind (files_behind olds news zip.1)

  files_inside : (olds news : List OpenFile) → AllZip (StaysInside before) olds news → All (IsInside before) olds
  files_inside [] news zip = λ k d below. absurd (omega arith)
  files_inside (file ∷ olds) [] zip = absurd zip
  files_inside (file ∷ olds) (new ∷ news) zip = all-of (IsInside before) file olds zip.0.inside (files_inside olds news zip.1)

  can_last : (l k n : Last) → LastKin (FileShifts e) (ReadsShift e) after l k → LastKin (StaysInside before) (ReadInside before) before l n → CanMoveLast (Edit e) l
  can_last l k n moves stays = record {
    opens = can_files l.opens (files_behind l.opens k.opens moves.opens) (files_inside l.opens n.opens stays.opens);
    seen = can_held (get l.seen e.name) moves.seen.1 (stays.seen e.name);
  }

  module _ {S : Type 0} where
    can_row : (p q r : PageRow S) → PageKin (FileShifts e) (ReadsShift e) p q → PageKin (StaysInside before) (ReadInside before) p r → CanMoveRow (Edit e) p.row
    can_row p q r moves stays = record {
      opens = can_files p.row.opens (files_behind p.row.opens q.row.opens moves.opens) (files_inside p.row.opens r.row.opens stays.opens);
      seen = can_held (get p.row.seen e.name) moves.seen.1 (stays.seen e.name);
    }

    can_rows : (ps qs rs : List (PageRow S)) → AllZip (PageKin (FileShifts e) (ReadsShift e)) ps qs → AllZip (PageKin (StaysInside before) (ReadInside before)) ps rs → All (CanMoveRow (Edit e)) (rows_in ps)
    can_rows [] qs rs moves stays = λ k d below. absurd (omega arith)
    can_rows (p ∷ ps) [] rs moves stays = absurd moves
    can_rows (p ∷ ps) (q ∷ qs) [] moves stays = absurd stays
    can_rows (p ∷ ps) (q ∷ qs) (r ∷ rs) moves stays = all-of (CanMoveRow (Edit e)) p.row (rows_in ps) (can_row p q r moves.0 stays.0) (can_rows ps qs rs moves.1 stays.1)

-- what stands within its file does so after a change
inside_shifted : {before after : Files} {e : FileEdit} → Edited before after e → e.place + e.removed ≤ length (bytes_of before e.name) → (file : OpenFile) → FileBehind e file → IsInside before file → IsInside after (shifted_file e file)
inside_shifted {before = before} {after = after} {e = e} edit within file behind inside = by (bytes_eq file.name e.name) refl
  where
    same_size : (name : List ℕ) → bytes_eq name e.name ≡ false → length (bytes_of before name) ≡ length (bytes_of after name)
    same_size name other = ap (λ held. length (unwrap_or held [])) (sym (edit.others name (λ same. true≢false (sym ((bytes_decides name e.name).1 same) ∙ other))))

    by : (b : Bool) → bytes_eq file.name e.name ≡ b → IsInside after (cond b (record file { offset = shifted e file.offset }) file)
    by true is =
        let name : e.name ≡ file.name = sym ((bytes_decides file.name e.name).0 is) in
        let size : length (bytes_of after e.name) ≡ length (bytes_of before e.name) - e.removed + length e.put = edited_size edit within in
        let past : e.place + e.removed ≤ file.offset = behind is in
        let old : file.offset ≤ length (bytes_of before e.name) = subst (λ a. file.offset ≤ length (bytes_of before a)) (sym name) inside in
        let new : file.offset - e.removed + length e.put ≤ length (bytes_of after e.name) = omega arith in
        subst (λ a. file.offset - e.removed + length e.put ≤ length (bytes_of after a)) name new
    by false is = subst (λ n. file.offset ≤ n) (same_size file.name is) inside

all_shifted : (e : FileEdit) (P Q : OpenFile → Type 0) → ((file : OpenFile) → FileBehind e file → P file → Q (shifted_file e file)) → (opens : List OpenFile) → All (FileBehind e) opens → All P opens → All Q (shifted_opens e opens)
all_shifted e P Q one [] behind all = λ k d below. absurd (omega arith)
all_shifted e P Q one (file ∷ opens) behind all =
    all-of Q (shifted_file e file) (shifted_opens e opens) (one file (behind 0 file (omega arith)) (all 0 file (omega arith)))
    (all_shifted e P Q one opens (others-of (FileBehind e) file opens behind) (others-of P file opens all))

inside_kept : (files : Files) (gone : List ℕ) (file : OpenFile) → IsOther gone file.name → IsInside files file → IsInside (remove files gone) file
inside_kept files gone file other inside =
    subst (λ (held : Option (List ℕ)). file.offset ≤ length (unwrap_or held [])) (sym (removed-others files gone file.name (λ same. true≢false (sym ((bytes_decides file.name gone).1 same) ∙ other)))) inside

all_kept : {X : Type 0} (A P Q : X → Type 0) → ((x : X) → A x → P x → Q x) → (xs : List X) → All A xs → All P xs → All Q xs
all_kept A P Q one [] first all = λ k d below. absurd (omega arith)
all_kept A P Q one (x ∷ xs) first all = all-of Q x xs (one x (first 0 x (omega arith)) (all 0 x (omega arith))) (all_kept A P Q one xs (others-of A x xs first) (others-of P x xs all))

inside_by : (files : Files) (c : Change) → fits files c ≡ true → (opens : List OpenFile) → All (BehindBy c) opens → All (IsInside files) opens → All (IsInside (changed files c)) (opens_by c opens)
inside_by files (Edit e) fit opens behind inside = all_shifted e (IsInside files) (IsInside (edited files e)) (inside_shifted (edited-is files e fit) (leb-true _ _ fit)) opens behind inside
inside_by files (Remove gone) fit opens behind inside = all_kept (λ (file : OpenFile). IsOther gone file.name) (IsInside files) (IsInside (remove files gone)) (inside_kept files gone) opens behind inside

-- what is reused from some open files on
module _ {S : Type 0} where
  record CanAll (changes : List Change) (opens : List OpenFile) (h : History S) : Type 0 where
    opens_can : CanCarryOpens changes opens
    rows_can : All (CanCarryRow changes) (rows_in h.pages)
    last_can : CanCarryLast changes h.last

  record CanOne (c : Change) (opens : List OpenFile) (h : History S) : Type 0 where
    opens_can : CanMoveOpens c opens
    rows_can : All (CanMoveRow c) (rows_in h.pages)
    last_can : CanMoveLast c h.last

  -- behind the first change, and then behind the others
  both_rows : (c : Change) (changes : List Change) (pages : List (PageRow S)) → All (CanMoveRow c) (rows_in pages) → All (CanCarryRow changes) (rows_in (map (carried_page (c ∷ [])) pages)) → All (CanCarryRow (c ∷ changes)) (rows_in pages)
  both_rows c changes [] first later = λ k d below. absurd (omega arith)
  both_rows c changes (page ∷ pages) first later =
      let here : CanMoveRow c page.row = first 0 page.row (omega arith) in
      let there : CanCarryRow changes (carried_page (c ∷ []) page).row = later 0 (carried_page (c ∷ []) page).row (omega arith) in
      all-of (CanCarryRow (c ∷ changes)) page.row (rows_in pages) (record { opens = (here.opens, there.opens); seen = (here.seen, there.seen) })
      (both_rows c changes pages (others-of (CanMoveRow c) page.row (rows_in pages) first) (others-of (CanCarryRow changes) (carried_page (c ∷ []) page).row (rows_in (map (carried_page (c ∷ [])) pages)) later))

  both_all : (files : Files) (c : Change) (changes : List Change) (opens : List OpenFile) (h : History S) → CanOne c opens h → CanAll changes (opens_by c opens) (moved files (c ∷ []) h) → CanAll (c ∷ changes) opens h
  both_all files c changes opens h first later = record {
    opens_can = (first.opens_can, later.opens_can);
    rows_can = both_rows c changes h.pages first.rows_can later.rows_can;
    last_can = record { opens = (first.last_can.opens, later.last_can.opens); seen = (first.last_can.seen, later.last_can.seen) };
  }

  module _ (m : Formatter S) (budget pages : ℕ) (state : S) where
    can_one : (files : Files) (c : Change) → fits files c ≡ true → length (bytes_of (changed files c) (name_of c)) < 2 ^ 64 → (opens : List OpenFile) → All (BehindBy c) opens → All (IsInside files) opens
        → rest_asks (rows_in (rows_from m files budget pages state opens).pages) (rows_from m files budget pages state opens).last (name_of c) ≡ false → CanOne c opens (rows_from m files budget pages state opens)
    can_one files (Edit e) fit small opens behind inside none =
        let edit : Edited files (edited files e) e = edited-is files e fit in
        let room : e.place + e.removed ≤ length (bytes_of files e.name) = leb-true _ _ fit in
        let moves = moved-kin e edit m budget pages state opens behind none in
        let stays = rows-inside files m budget pages state opens inside in
        record {
          opens_can = can_files edit room small opens behind inside;
          rows_can = can_rows edit room small (rows_from m files budget pages state opens).pages _ _ moves.pages stays.pages;
          last_can = can_last edit room small (rows_from m files budget pages state opens).last _ _ moves.last stays.last;
        }
    can_one files (Remove gone) fit small opens behind inside none = record {
      opens_can = tt;
      rows_can = λ k d below. record { opens = tt; seen = tt };
      last_can = record { opens = tt; seen = tt };
    }

    can_all : (changes : List Change) (files : Files) → all_fit files changes ≡ true → AreSmall files changes → (opens : List OpenFile) → AreBehind changes opens → All (IsInside files) opens
        → rest_asks_any (rows_in (rows_from m files budget pages state opens).pages) (rows_from m files budget pages state opens).last changes ≡ false → CanAll changes opens (rows_from m files budget pages state opens)
    can_all [] files fit small opens behind inside none = record {
      opens_can = tt;
      rows_can = λ k d below. record { opens = tt; seen = tt };
      last_can = record { opens = tt; seen = tt };
    }
    can_all (c ∷ changes) files fit small opens behind inside none =
        let h : History S = rows_from m files budget pages state opens in
        let mid : Files = changed files c in
        let next : History S = rows_from m mid budget pages state (opens_by c opens) in
        let fitting = and_parts (fits files c) (all_fit mid changes) fit in
        let asks = asks-parts c changes (rows_in h.pages) h.last none in
        let step : next ≡ moved mid (c ∷ []) h = moved-by m budget files c fitting.0 pages state opens behind.0 asks.0 in
        let still : rest_asks_any (rows_in next.pages) next.last changes ≡ false = ap (λ (g : History S). rest_asks_any (rows_in g.pages) g.last changes) step ∙ rest-by c changes mid h ∙ asks.1 in
        let later : CanAll changes (opens_by c opens) next = can_all changes mid fitting.1 small.1 (opens_by c opens) behind.1 (inside_by files c fitting.0 opens behind.0 inside) still in
        both_all mid c changes opens h (can_one files c fitting.0 small.0 opens behind.0 inside asks.0) (subst (CanAll changes (opens_by c opens)) step later)

-- a row, by what comes behind it
rows_opens : {S : Type 0} (changes : List Change) (rows : List (Row S)) → All (CanCarryRow changes) rows → All (λ (row : Row S). CanCarryOpens changes row.opens) rows
rows_opens changes rows can k d below = (can k d below).opens

from_row : {S : Type 0} (Q : List OpenFile → Type 0) (begun : Begun S) (rows : List (Row S)) (j : ℕ) → suc j ≤ length rows → Q (after_rows begun (take (suc j) rows)).opens
    → All (λ (row : Row S). Q row.opens) (drop (suc j) rows) → All (λ (row : Row S). Q row.opens) (drop j rows)
from_row Q begun [] j within here later = absurd (omega arith)
from_row Q begun (row ∷ rows) zero within here later = all-of (λ it. Q it.opens) row rows here later
from_row Q begun (row ∷ rows) (suc j) within here later = from_row Q (row_begun row) rows j (omega arith) here later

-- where open files stand within their files after some rows
after_inside : {S : Type 0} (files : Files) (begun : Begun S) (j : ℕ) (rows : List (Row S)) → All (IsInside files) begun.opens → All (λ (row : Row S). All (IsInside files) row.opens) rows → All (IsInside files) (after_rows begun (take j rows)).opens
after_inside files begun zero rows here all = here
after_inside files begun (suc j) [] here all = here
after_inside files begun (suc j) (row ∷ rows) here all = after_inside files (row_begun row) j rows (all 0 row (omega arith)) (others-of (λ it. All (IsInside files) it.opens) row rows all)

rows_inside : {S : Type 0} (files : Files) (ps rs : List (PageRow S)) → AllZip (PageKin (StaysInside files) (ReadInside files)) ps rs → All (λ (row : Row S). All (IsInside files) row.opens) (rows_in ps)
rows_inside files [] rs zip = λ k d below. absurd (omega arith)
rows_inside files (p ∷ ps) [] zip = absurd zip
rows_inside files (p ∷ ps) (r ∷ rs) zip = all-of (λ it. All (IsInside files) it.opens) p.row (rows_in ps) (opens p.row.opens r.row.opens zip.0.opens) (rows_inside files ps rs zip.1)
  where
    opens : (olds news : List OpenFile) → AllZip (StaysInside files) olds news → All (IsInside files) olds
    opens [] news none = λ k d below. absurd (omega arith)
    opens (file ∷ olds) [] none = absurd none
    opens (file ∷ olds) (new ∷ news) some = all-of (IsInside files) file olds some.0.inside (opens olds news some.1)

module _ {S : Type 0} (m : Formatter S) (files : Files) (changes : List Change) (main : List ℕ) (date : Date) (limits : Limits) (fit : all_fit files changes ≡ true) (small : AreSmall files changes) (k : ℕ) where
  abbrev old : History S
  old = fresh_rows m files main date limits

  abbrev after : Files
  after = all_changed files changes

  abbrev news : List (Row S)
  news = rows_in (run_behind m after (rows_in old.pages) k main date limits).pages

  pub can-reuse : (meeting : Meeting) → meeting_behind m after changes (rows_in old.pages) old.last k main date limits ≡ Some meeting → CanReuse changes meeting.old (rows_in old.pages) old.last
  can-reuse meeting is =
      let there : FoundNew m changes old.last (rows_in old.pages) k news meeting = found_new m changes old.last (rows_in old.pages) k news meeting is in
      let here : FoundOld m changes old.last there.new (rows_in old.pages) meeting.old = found_row m changes old.last (rows_in old.pages) k there.new meeting.old there.meets in
      let fitting = and_parts (opens_fit changes here.old.opens there.new.opens) (m.same there.new.state here.old.state) here.fits in
      let behind : AreBehind changes here.old.opens = (opens-so changes here.old.opens there.new.opens fitting.0).behind in
      let within : meeting.old ≤ length old.pages = subst (λ n. meeting.old ≤ n) (length-map old.pages (λ page. page.row)) here.within in
      let start : Begun S = start_of m main date in
      let whole : HistoryKin (StaysInside files) (ReadInside files) files old old = rows-inside files m limits.budget limits.pages (m.start date main) [] (λ i d below. absurd (omega arith)) in
      let inside : All (IsInside files) here.old.opens =
      subst (λ (b : Begun S). All (IsInside files) b.opens) (here.at start) (after_inside files start meeting.old (rows_in old.pages) (λ i d below. absurd (omega arith)) (rows_inside files old.pages old.pages whole.pages)) in
      let rest_is : rest_of old meeting.old ≡ rows_from m files limits.budget (limits.pages - meeting.old) here.old.state here.old.opens = old_rest m files main date limits meeting.old within (row_begun here.old) (here.at start) in
      let rest : History S = rows_from m files limits.budget (limits.pages - meeting.old) here.old.state here.old.opens in
      let asks : rest_asks_any (rows_in rest.pages) rest.last changes ≡ false =
      subst (λ (h : History S). rest_asks_any (rows_in h.pages) h.last changes ≡ false) rest_is (ap (λ rows. rest_asks_any rows old.last changes) (sym (drop-map (λ (page : PageRow S). page.row) meeting.old old.pages)) ∙ here.asks) in
      let all : CanAll changes here.old.opens rest = can_all m limits.budget (limits.pages - meeting.old) here.old.state changes files fit small here.old.opens behind inside asks in
      let rows_can : All (CanCarryRow changes) (drop meeting.old (rows_in old.pages)) =
      subst (All (CanCarryRow changes)) (sym (drop-map (λ (page : PageRow S). page.row) meeting.old old.pages)) (subst (λ (h : History S). All (CanCarryRow changes) (rows_in h.pages)) (sym rest_is) all.rows_can) in
      let some : 1 ≤ meeting.old = here.some in
      let last_row : suc (meeting.old - 1) ≡ meeting.old = omega arith in
      record {
        some = here.some;
        within = here.within;
        opens = from_row (CanCarryOpens changes) start (rows_in old.pages) (meeting.old - 1) (subst (λ n. n ≤ length (rows_in old.pages)) (sym last_row) here.within)
            (subst (λ n. CanCarryOpens changes (after_rows start (take n (rows_in old.pages))).opens) (sym last_row) (subst (λ (b : Begun S). CanCarryOpens changes b.opens) (sym (here.at start)) all.opens_can))
            (subst (λ n. All (λ (row : Row S). CanCarryOpens changes row.opens) (drop n (rows_in old.pages))) (sym last_row) (rows_opens changes (drop meeting.old (rows_in old.pages)) rows_can));
        rows_can = rows_can;
        last_can = subst (λ (h : History S). CanCarryLast changes h.last) (sym rest_is) all.last_can;
      }

-- whatever form the states have
module _ {S M : Type 0} (meaning : S → M) (changes : List Change) where
  rows_unmeant : (n : ℕ) (rows : List (Row S)) → All (CanCarryRow changes) (drop n (rows_meant meaning rows)) → All (CanCarryRow changes) (drop n rows)
  rows_unmeant zero [] can = λ k d below. absurd (omega arith)
  rows_unmeant zero (row ∷ rows) can =
      let first : CanCarryRow changes (row_meant meaning row) = can 0 (row_meant meaning row) (omega arith) in
      all-of (CanCarryRow changes) row rows (record { opens = first.opens; seen = first.seen }) (rows_unmeant zero rows (others-of (CanCarryRow changes) (row_meant meaning row) (rows_meant meaning rows) can))
  rows_unmeant (suc n) [] can = λ k d below. absurd (omega arith)
  rows_unmeant (suc n) (row ∷ rows) can = rows_unmeant n rows can

  opens_unmeant : (n : ℕ) (rows : List (Row S)) → All (λ (row : Row M). CanCarryOpens changes row.opens) (drop n (rows_meant meaning rows)) → All (λ (row : Row S). CanCarryOpens changes row.opens) (drop n rows)
  opens_unmeant zero [] can = λ k d below. absurd (omega arith)
  opens_unmeant zero (row ∷ rows) can =
      all-of (λ (it : Row S). CanCarryOpens changes it.opens) row rows (can 0 (row_meant meaning row) (omega arith)) (opens_unmeant zero rows (others-of (λ (it : Row M). CanCarryOpens changes it.opens) (row_meant meaning row) (rows_meant meaning rows) can))
  opens_unmeant (suc n) [] can = λ k d below. absurd (omega arith)
  opens_unmeant (suc n) (row ∷ rows) can = opens_unmeant n rows can

  pub can-unmeant : (number : ℕ) (rows : List (Row S)) (last : Last) → CanReuse changes number (rows_meant meaning rows) last → CanReuse changes number rows last
  can-unmeant number rows last can = record {
    some = can.some;
    within = subst (λ n. number ≤ n) (length-map rows (row_meant meaning)) can.within;
    opens = opens_unmeant (number - 1) rows can.opens;
    rows_can = rows_unmeant number rows can.rows_can;
    last_can = can.last_can;
  }
