-- What a meeting that was found is, and why the run on the changed files is then made of these parts.
use Rattle.std.proofs.Common.{◌≡◌, ℕ, zero, suc, ◌+◌, ◌-◌, ◌≤◌, Bool, true, false, cond, not, ◌&&◌, List, [], ◌∷◌, ◌++◌, length, map, take, drop, max, Option, Some, None, refl, sym, ap, ◌∙◌, subst, arith}
use Rattle.std.proofs.lemmas.Bool.{and_parts, not-true}
use Rattle.std.proofs.Common.{length-drop}
use Rattle.std.proofs.lemmas.List.{length-map, length-take-le, take-map, drop-drop}
use Rattle.std.proofs.Math.Seq.{drop-append_seam}
use Rattle.tx_bytes.specs.Files.{Files}
use Rattle.tx_files.specs.declared.edit.Change.{Change}
use Rattle.tx_files.specs.Changes.{all_fit, all_changed}
use Rattle.tx_machine.specs.declared.types.Date.{Date}
use Rattle.tx_machine.specs.declared.types.Limits.{Limits}
use Rattle.tx_machine.specs.Machine.{Formatter, IsLawful}
use Rattle.tx_checkpoint.specs.declared.row.Row.{Row}
use Rattle.tx_checkpoint.specs.declared.row.Last.{Last}
use Rattle.tx_checkpoint.specs.Laws.{AreUntouched}
use Rattle.tx_checkpoint.specs.Resume.{Begun, after_rows, start_of, run_behind}
use Rattle.tx_checkpoint.specs.Rows.{History, PageRow, rows_in, behind, rows_from, fresh_rows}
use Rattle.tx_checkpoint.proofs.Standing.{splits, fresh-resumes}
use Rattle.tx_quiesce.specs.Meeting.{Meeting, opens_fit, row_fits, rest_asks_any, met, met_row, meeting_at, first_meeting}
use Rattle.tx_quiesce.specs.Reuse.{moved, moved_begun, reused, further, rest_of, reused_by, made_after}
use Rattle.tx_quiesce.proofs.Reuse.{from-meeting}

abbrev pub row_begun : {S : Type 0} → Row S → Begun S
row_begun row = record { state = row.state; opens = row.opens }

-- rows one after the other
pub after-append : {S : Type 0} (begun : Begun S) (first later : List (Row S)) → after_rows begun (first ++ later) ≡ after_rows (after_rows begun first) later
after-append begun [] later = refl
after-append begun (row ∷ first) later = after-append (row_begun row) first later

none_taken : {X : Type 0} (n : ℕ) → ◌≡◌ {A = List X} (take n []) []
none_taken zero = refl
none_taken (suc n) = refl

pub take-split : {X : Type 0} (p q : ℕ) (xs : List X) → take (p + q) xs ≡ take p xs ++ take q (drop p xs)
take-split zero q xs = let same : 0 + q ≡ q = omega arith in ap (λ n. take n xs) same
take-split (suc p) q [] = none_taken (suc p + q) ∙ sym (none_taken q)
take-split (suc p) q (x ∷ xs) = let next : suc p + q ≡ suc (p + q) = omega arith in ap (λ n. take n (x ∷ xs)) next ∙ ap (λ rest. x ∷ rest) (take-split p q xs)

pub drop-map : {X Y : Type 0} (f : X → Y) (n : ℕ) (xs : List X) → drop n (map f xs) ≡ map f (drop n xs)
drop-map f zero xs = refl
drop-map f (suc n) [] = refl
drop-map f (suc n) (x ∷ xs) = drop-map f n xs

module _ {S : Type 0} (m : Formatter S) (changes : List Change) (last : Last) where
  -- an old row that was found
  pub record FoundOld (new : Row S) (olds : List (Row S)) (rows : ℕ) : Type 0 where
    pub old : Row S
    pub within : rows ≤ length olds
    pub some : 1 ≤ rows
    pub fits : row_fits m changes old new ≡ true
    pub asks : rest_asks_any (drop rows olds) last changes ≡ false
    pub at : (begun : Begun S) → after_rows begun (take rows olds) ≡ row_begun old

  pub found_old : (new : Row S) (number j : ℕ) (olds : List (Row S)) → met m changes last new number olds ≡ Some j → (number ≤ j) × FoundOld new olds (j - number + 1)
  found_old new number j [] is = absurd (let none : None ≡ Some j = is in cc)
  found_old new number j (old ∷ olds) is = by (found_old new (number + 1) j olds) (row_fits m changes old new && not (rest_asks_any olds last changes)) refl is
    where
      by : (met m changes last new (number + 1) olds ≡ Some j → (number + 1 ≤ j) × FoundOld new olds (j - (number + 1) + 1))
          → (b : Bool) → (row_fits m changes old new && not (rest_asks_any olds last changes)) ≡ b → cond b (Some number) (met m changes last new (number + 1) olds) ≡ Some j → (number ≤ j) × FoundOld new (old ∷ olds) (j - number + 1)
      by further_on true fit here =
          let parts = and_parts (row_fits m changes old new) (not (rest_asks_any olds last changes)) fit in
          let same : number ≡ j = (let found : Some number ≡ Some j = here in cc) in
          let one : j - number + 1 ≡ 1 = omega arith in (
            omega arith,
            record {
              old = old;
              within = omega arith;
              some = omega arith;
              fits = parts.0;
              asks = ap (λ n. rest_asks_any (drop n (old ∷ olds)) last changes) one ∙ not-true (rest_asks_any olds last changes) parts.1;
              at = λ begun. ap (λ n. after_rows begun (take n (old ∷ olds))) one;
            },
          )
      by further_on false fit here =
          let later = further_on here in
          let past : number + 1 ≤ j = later.0 in
          let next : j - number + 1 ≡ suc (j - (number + 1) + 1) = omega arith in
          let inside : j - (number + 1) + 1 ≤ length olds = later.1.within in (
            omega arith,
            record {
              old = later.1.old;
              within = omega arith;
              some = omega arith;
              fits = later.1.fits;
              asks = ap (λ n. rest_asks_any (drop n (old ∷ olds)) last changes) next ∙ later.1.asks;
              at = λ begun. ap (λ n. after_rows begun (take n (old ∷ olds))) next ∙ later.1.at (row_begun old);
            },
          )

  pub found_row : (olds : List (Row S)) (resumed : ℕ) (new : Row S) (j : ℕ) → met_row m changes olds last resumed new ≡ Some j → FoundOld new olds j
  found_row olds resumed new j is =
      let p : ℕ = max resumed 1 - 1 in
      let found = found_old new (max resumed 1) j (drop p olds) is in
      let above : max resumed 1 ≤ j = found.0 in
      let inside : j - max resumed 1 + 1 ≤ length (drop p olds) = found.1.within in
      let left : length (drop p olds) ≡ length olds - p = length-drop p olds in
      let sum : p + (j - max resumed 1 + 1) ≡ j = omega arith in
      record {
        old = found.1.old;
        within = omega arith;
        some = omega arith;
        fits = found.1.fits;
        asks = ap (λ rows. rest_asks_any rows last changes) (sym (drop-drop (j - max resumed 1 + 1) p olds ∙ ap (λ n. drop n olds) sum)) ∙ found.1.asks;
        at = λ begun. ap (λ n. after_rows begun (take n olds)) (sym sum) ∙ ap (after_rows begun) (take-split p (j - max resumed 1 + 1) olds) ∙ after-append begun (take p olds) (take (j - max resumed 1 + 1) (drop p olds)) ∙ found.1.at (after_rows begun (take p olds));
      }

  -- the new row that meets it
  pub record FoundNew (olds : List (Row S)) (resumed : ℕ) (news : List (Row S)) (meeting : Meeting) : Type 0 where
    pub new : Row S
    pub within : meeting.formatted ≤ length news
    pub meets : met_row m changes olds last resumed new ≡ Some meeting.old
    pub at : (begun : Begun S) → after_rows begun (take meeting.formatted news) ≡ row_begun new

  pub found_new : (olds : List (Row S)) (resumed : ℕ) (news : List (Row S)) (meeting : Meeting) → first_meeting m changes olds last resumed news ≡ Some meeting → FoundNew olds resumed news meeting
  found_new olds resumed [] meeting is = absurd (let none : None ≡ Some meeting = is in cc)
  found_new olds resumed (new ∷ news) meeting is = by (found_new olds resumed news) (met_row m changes olds last resumed new) (first_meeting m changes olds last resumed news) refl refl is
    where
      by : ((first : Meeting) → first_meeting m changes olds last resumed news ≡ Some first → FoundNew olds resumed news first)
          → (o : Option ℕ) (later : Option Meeting) → met_row m changes olds last resumed new ≡ o → first_meeting m changes olds last resumed news ≡ later → meeting_at o later ≡ Some meeting → FoundNew olds resumed (new ∷ news) meeting
      by further_on (Some j) later here there found =
          let same : record { formatted = 1; old = j } ≡ meeting = (let it : Some (record { formatted = 1; old = j }) ≡ Some meeting = found in cc) in
          subst (FoundNew olds resumed (new ∷ news)) same (record { new = new; within = omega arith; meets = here; at = λ begun. refl })
      by further_on None None here there found = absurd (let none : None ≡ Some meeting = found in cc)
      by further_on None (Some first) here there found =
          let same : record first { formatted = first.formatted + 1 } ≡ meeting = (let it : Some (record first { formatted = first.formatted + 1 }) ≡ Some meeting = found in cc) in
          let behind_it : FoundNew olds resumed news first = further_on first there in
          let next : first.formatted + 1 ≡ suc first.formatted = omega arith in
          let inside : first.formatted ≤ length news = behind_it.within in
          subst (FoundNew olds resumed (new ∷ news)) same (record {
            new = behind_it.new;
            within = omega arith;
            meets = behind_it.meets;
            at = λ begun. ap (λ n. after_rows begun (take n (new ∷ news))) next ∙ behind_it.at (row_begun new);
          })

  -- the new row of a meeting is one of these, and the old one isn't before the row at which formatting resumed
  pub first-within : (olds : List (Row S)) (resumed : ℕ) (news : List (Row S)) (meeting : Meeting) → first_meeting m changes olds last resumed news ≡ Some meeting → meeting.formatted ≤ length news
  first-within olds resumed news meeting is = (found_new olds resumed news meeting is).within

  pub first-past : (olds : List (Row S)) (resumed : ℕ) (news : List (Row S)) (meeting : Meeting) → first_meeting m changes olds last resumed news ≡ Some meeting → resumed ≤ meeting.old
  first-past olds resumed news meeting is =
      let there = found_new olds resumed news meeting is in
      let above : max resumed 1 ≤ meeting.old = (found_old there.new (max resumed 1) meeting.old (drop (max resumed 1 - 1) olds) there.meets).0 in
      omega arith

-- behind one of its rows a run is a run by itself
pub old_rest : {S : Type 0} (m : Formatter S) (files : Files) (main : List ℕ) (date : Date) (limits : Limits) (j : ℕ) → j ≤ length (fresh_rows m files main date limits).pages → (begun : Begun S)
    → after_rows (start_of m main date) (take j (rows_in (fresh_rows m files main date limits).pages)) ≡ begun
    → rest_of (fresh_rows m files main date limits) j ≡ rows_from m files limits.budget (limits.pages - j) begun.state begun.opens
old_rest {S = S} m files main date limits j within begun is =
    let old : History S = fresh_rows m files main date limits in
    let at : after_rows (start_of m main date) (rows_in (take j old.pages)) ≡ begun = ap (after_rows (start_of m main date)) (sym (take-map (λ (page : PageRow S). page.row) j old.pages)) ∙ is in
    let rest : Begun S → History S = λ b. rows_from m files limits.budget (limits.pages - j) b.state b.opens in
    let whole : old ≡ behind (take j old.pages) (rest begun) = splits m files limits.budget limits.pages j (m.start date main) [] within ∙ ap (λ b. behind (take j old.pages) (rest b)) at in
    let front : length (take j old.pages) ≡ j = length-take-le j old.pages within in
    λ i. record {
      pages = (ap (λ h. drop j h.pages) whole ∙ ap (λ n. drop n (take j old.pages ++ (rest begun).pages)) (sym front) ∙ drop-append_seam (take j old.pages) (rest begun).pages) i;
      last = ap (λ h. h.last) whole i;
    }

module _ {S : Type 0} (m : Formatter S) (lawful : IsLawful m) (files : Files) (changes : List Change) (main : List ℕ) (date : Date) (limits : Limits) (fits : all_fit files changes ≡ true) where
  abbrev old : History S
  old = fresh_rows m files main date limits

  abbrev after : Files
  after = all_changed files changes

  module _ (k : ℕ) where
    abbrev new : History S
    new = run_behind m after (rows_in old.pages) k main date limits

    abbrev begun : Begun S
    begun = after_rows (start_of m main date) (take k (rows_in old.pages))

    pub tail_is : (o : Option Meeting) → first_meeting m changes (rows_in old.pages) old.last k (rows_in new.pages) ≡ o → new ≡ reused_by m after changes (start_of m main date) limits.budget (limits.pages - k) old new o
    tail_is None is = refl
    tail_is (Some meeting) is =
        let there = found_new m changes old.last (rows_in old.pages) k (rows_in new.pages) meeting is in
        let here = found_row m changes old.last (rows_in old.pages) k there.new meeting.old there.meets in
        let fit = and_parts (opens_fit changes here.old.opens there.new.opens) (m.same there.new.state here.old.state) here.fits in
        let inside : meeting.formatted ≤ length new.pages = subst (λ n. meeting.formatted ≤ n) (length-map new.pages (λ page. page.row)) there.within in
        let within : meeting.old ≤ length old.pages = subst (λ n. meeting.old ≤ n) (length-map old.pages (λ page. page.row)) here.within in
        let new_at : after_rows begun (rows_in (take meeting.formatted new.pages)) ≡ row_begun there.new =
        ap (after_rows begun) (sym (take-map (λ (page : PageRow S). page.row) meeting.formatted new.pages)) ∙ there.at begun in
        let old_at = here.at (start_of m main date) in
        let rest : rest_of old meeting.old ≡ rows_from m files limits.budget (limits.pages - meeting.old) here.old.state here.old.opens = old_rest m files main date limits meeting.old within (row_begun here.old) old_at in
        let asks : rest_asks_any (rows_in (rest_of old meeting.old).pages) old.last changes ≡ false = ap (λ rows. rest_asks_any rows old.last changes) (sym (drop-map (λ (page : PageRow S). page.row) meeting.old old.pages)) ∙ here.asks in
        let left : ℕ = limits.pages - k - meeting.formatted in
        let product : Begun S → History S → History S = λ b h. behind (take (reused left (moved after changes h)) (moved after changes h).pages) (further m after limits.budget left (moved_begun changes b) (moved after changes h)) in
        splits m after limits.budget (limits.pages - k) meeting.formatted begun.state begun.opens inside
        ∙ ap (λ (b : Begun S). behind (take meeting.formatted new.pages) (rows_from m after limits.budget left b.state b.opens)) new_at
        ∙ ap (behind (take meeting.formatted new.pages))
        (from-meeting m limits.budget files changes fits (limits.pages - meeting.old) left (row_begun here.old) (row_begun there.new) fit.0 ((lawful.tells there.new.state here.old.state).0 fit.1)
        (subst (λ (h : History S). rest_asks_any (rows_in h.pages) h.last changes ≡ false) rest asks)
        ∙ (λ i. product (sym old_at i) (sym rest i)))

    pub reuse-is : AreUntouched (rows_in old.pages) k changes → fresh_rows m after main date limits ≡ made_after m after changes main date limits k old
    reuse-is are =
        fresh-resumes m files changes main date limits fits k are
        ∙ ap (behind (take k old.pages)) (tail_is (first_meeting m changes (rows_in old.pages) old.last k (rows_in new.pages)) refl)
