-- What is made behind the rows that an edit leaves is what the definition makes of the old run.
use Rattle.std.proofs.Common.{◌≡◌, ℕ, ◌+◌, ◌-◌, ◌≤◌, List, [], length, map, take, drop, min, Option, Some, None, refl, sym, ap, ◌∙◌, subst, arith, append-nil}
use Rattle.std.specs.Prelude.{IfSome}
use Rattle.std.specs.List.{All}
use Rattle.std.proofs.lemmas.List.{length-map, length-take-le}
use Rattle.std.proofs.lemmas.List.Elements.{All-take}
use Rattle.tx_bytes.specs.Files.{Files}
use Rattle.tx_files.specs.declared.edit.Change.{Change}
use Rattle.tx_machine.specs.declared.types.Date.{Date}
use Rattle.tx_machine.specs.declared.types.Limits.{Limits}
use Rattle.tx_machine.specs.Machine.{Formatter}
use Rattle.tx_machine.specs.Run.{run_from}
use Rattle.tx_machine.specs.Steps.{raised}
use Rattle.tx_machine.proofs.Going.{raised-raised}
use Rattle.tx_checkpoint.specs.declared.row.Rows.{Rows}
use Rattle.tx_checkpoint.specs.declared.row.Last.{Last}
use Rattle.tx_checkpoint.specs.Meant.{AreRows, rows_meant}
use Rattle.tx_checkpoint.specs.Resume.{Begun, after_rows, start_of, run_behind}
use Rattle.tx_checkpoint.specs.Rows.{History, rows_in, behind, only}
use Rattle.tx_quiesce.specs.declared.front.Front.{Front}
use Rattle.tx_quiesce.specs.declared.front.Stopped.TheVariants.{Over, Met}
use Rattle.tx_quiesce.specs.declared.further.Further.{Further}
use Rattle.tx_quiesce.specs.declared.further.Further.TheVariants.{Goes, Stands}
use Rattle.tx_quiesce.specs.declared.later.Later.{Later}
use Rattle.tx_quiesce.specs.Front.{AreFront, Reaches, turns_to}
use Rattle.tx_quiesce.specs.Further.{IsFurther, CanReuse, further_turns}
use Rattle.tx_quiesce.specs.Later.{IsLater, CanCarryFurther, FitsBehind, turns_with, turns_behind}
use Rattle.tx_quiesce.specs.Meeting.{Meeting}
use Rattle.tx_quiesce.specs.Reuse.{moved, moved_begun, reused, rest_of, further, reused_by, reused_rows, meeting_behind, made_behind}
use Rattle.tx_quiesce.specs.Moves.{carried_page, CanCarryRow, CanCarryLast}
use Rattle.tx_machine.proofs.PageCounts.{pages-run_from}
use Rattle.tx_checkpoint.proofs.Standing.{rows-tell}
use Rattle.tx_quiesce.proofs.Found.{first-within, first-past}
use Rattle.tx_quiesce.proofs.Furthers.{rest-size}

-- why formatting stopped tells whether there was a meeting
pub record ReachedEnd {S M : Type 0} (meaning : S → M) (whole : History M) (o : Option Meeting) (front : Front S) (last : Last) : Type 0 where
  pub none : o ≡ None
  pub pages : AreFront meaning front whole.pages
  pub last_is : last ≡ whole.last

pub record ReachedMeeting {S M : Type 0} (meaning : S → M) (whole : History M) (o : Option Meeting) (front : Front S) (number : ℕ) : Type 0 where
  pub meeting : Meeting
  pub some : o ≡ Some meeting
  pub pages : AreFront meaning front (take meeting.formatted whole.pages)
  pub number_is : meeting.old ≡ number

pub reached-end : {S M : Type 0} (meaning : S → M) (whole : History M) (o : Option Meeting) (front : Front S) {last : Last} → Reaches meaning whole o front → front.stopped ≡ Over last → ReachedEnd meaning whole o front last
reached-end meaning whole None front {last = last} reaches is = record { none = refl; pages = reaches.0; last_is = let same : Over last ≡ Over whole.last = sym is ∙ reaches.1 in cc }
reached-end meaning whole (Some meeting) front {last = last} reaches is = absurd (let same : Over last ≡ Met meeting.old = sym is ∙ reaches.1 in cc)

pub reached-meeting : {S M : Type 0} (meaning : S → M) (whole : History M) (o : Option Meeting) (front : Front S) {number : ℕ} → Reaches meaning whole o front → front.stopped ≡ Met number → ReachedMeeting meaning whole o front number
reached-meeting meaning whole None front {number = number} reaches is = absurd (let same : Met number ≡ Over whole.last = sym is ∙ reaches.1 in cc)
reached-meeting meaning whole (Some meeting) front {number = number} reaches is = record { meeting = meeting; some = refl; pages = reaches.0; number_is = let same : Met meeting.old ≡ Met number = sym reaches.1 ∙ is in cc }

-- turns in two parts
pub further-counted : (before turns more : ℕ) {middle now total : ℕ} → middle ≡ raised before turns → now ≡ raised middle more → turns + more ≡ total → now ≡ raised before total
further-counted before turns more first then sum = then ∙ ap (λ t. raised t more) first ∙ raised-raised before turns more ∙ ap (raised before) sum

pub further-bound : (before turns more : ℕ) {middle now total : ℕ} → middle ≡ raised before turns → now ≤ raised middle more → turns + more ≡ total → now ≤ raised before total
further-bound before turns more {now = now} first then sum = subst (λ n. now ≤ n) (ap (λ t. raised t more) first ∙ raised-raised before turns more ∙ ap (raised before) sum) then

-- a last stretch that is reused stands behind the edit
pub can-further : {S : Type 0} (changes : List Change) (last : Last) (f : Further S) → CanCarryLast changes last → CanCarryFurther changes last f
can-further changes last (Goes rows) can = tt
can-further changes last (Stands end) can = can

module _ {S M : Type 0} (m : Formatter M) (meaning : S → M) (files : Files) (changes : List Change) {old : Rows S} {h : History M} (are : AreRows meaning old h) (start : Begun M) (budget most : ℕ) (new : History M) where
  -- all was formatted
  pub later-over : {o : Option Meeting} {later : Later S} {front : Front S} {last : Last} {rows : Rows S} → ReachedEnd meaning new o front last
      → later.front.pages ≡ front.pages → later.front.pieces ≡ front.pieces → later.front.rows ≡ front.rows → later.count ≡ 0 → later.further ≡ Goes rows
      → rows.pages.items ≡ [] → rows.pieces.items ≡ [] → rows.rows.items ≡ [] → rows.last ≡ last
      → IsLater meaning changes old h later (reused_by m files changes start budget most h new o)
  later-over {o = o} {later = later} {rows = rows} reached pages pieces formatted none goes no_page no_piece no_row last_is = record {
    formatted = new.pages;
    more = only new.last;
    pages_are = ap (λ v. v.items) pages ∙ reached.pages.bodies_are;
    pieces_are = ap (λ v. v.items) pieces ∙ reached.pages.pieces_are;
    rows_are = ap (λ v. rows_meant meaning v.items) formatted ∙ reached.pages.rows_are;
    more_is = subst (IsFurther meaning changes old.last (only new.last)) (sym goes) (record { pages_are = no_page; pieces_are = no_piece; rows_are = ap (rows_meant meaning) no_row; last_is = last_is ∙ reached.last_is });
    whole_is = ap (reused_by m files changes start budget most h new) reached.none
        ∙ (λ i. record { pages = sym (append-nil new.pages) i; last = new.last })
        ∙ ap (λ n. behind new.pages (behind (take n (map (carried_page changes) (drop later.from h.pages))) (only new.last))) (sym none);
  }

  -- the old run is reused from a meeting on
  pub later-met : {o : Option Meeting} {later : Later S} {front : Front S} {number left : ℕ} (reached : ReachedMeeting meaning new o front number)
      → later.front.pages ≡ front.pages → later.front.pieces ≡ front.pieces → later.front.rows ≡ front.rows → later.from ≡ number → left ≡ most - reached.meeting.formatted → later.count ≡ min left (length old.rows.items - number)
      → IsFurther meaning changes old.last (further m files budget left (moved_begun changes (after_rows start (take number (rows_in h.pages)))) (moved files changes (rest_of h number))) later.further
      → IsLater meaning changes old h later (reused_by m files changes start budget most h new o)
  later-met {later = later} {number = number} {left = left} reached pages pieces formatted from left_is count further_is = record {
    formatted = take reached.meeting.formatted new.pages;
    more = further m files budget left (moved_begun changes (after_rows start (take number (rows_in h.pages)))) (moved files changes (rest_of h number));
    pages_are = ap (λ v. v.items) pages ∙ reached.pages.bodies_are;
    pieces_are = ap (λ v. v.items) pieces ∙ reached.pages.pieces_are;
    rows_are = ap (λ v. rows_meant meaning v.items) formatted ∙ reached.pages.rows_are;
    more_is = further_is;
    whole_is = ap (reused_by m files changes start budget most h new) reached.some
        ∙ (λ i. behind (take reached.meeting.formatted new.pages) (tail (reached.number_is i) (sym left_is i)))
        ∙ (λ i. behind (take reached.meeting.formatted new.pages) (behind (take (sym size i) (map (carried_page changes) (drop (sym from i) h.pages))) (further m files budget left (moved_begun changes (after_rows start (take number (rows_in h.pages)))) (moved files changes (rest_of h number)))));
  }
    where
      tail : ℕ → ℕ → History M
      tail j l = behind (take (reused l (moved files changes (rest_of h j))) (moved files changes (rest_of h j)).pages) (further m files budget l (moved_begun changes (after_rows start (take j (rows_in h.pages)))) (moved files changes (rest_of h j)))

      size : later.count ≡ reused left (moved files changes (rest_of h number))
      size = count ∙ ap (min left) (sym (rest-size meaning changes files are start number))

  -- the turns that this takes
  pub turns-over : {o : Option Meeting} {front : Front S} {last : Last} → ReachedEnd meaning new o front last → turns_to new o ≡ turns_with m files changes start budget most h new o
  turns-over {o = o} reached = ap (turns_to new) reached.none ∙ sym (ap (turns_with m files changes start budget most h new) reached.none)

  pub turns-met : {o : Option Meeting} {front : Front S} {number left : ℕ} (reached : ReachedMeeting meaning new o front number) → left ≡ most - reached.meeting.formatted
      → turns_to new o + further_turns old.last (further m files budget left (moved_begun changes (after_rows start (take number (rows_in h.pages)))) (moved files changes (rest_of h number))) ≡ turns_with m files changes start budget most h new o
  turns-met {number = number} {left = left} reached left_is =
      (λ i. turns_to new (reached.some i) + further_turns (are.last_is i) (further m files budget (left_is i) (moved_begun changes (after_rows start (take (sym reached.number_is i) (rows_in h.pages)))) (moved files changes (rest_of h (sym reached.number_is i)))))
      ∙ sym (ap (turns_with m files changes start budget most h new) reached.some)

  -- what is formatted up to a meeting is a part of it
  pub turns-least : (o : Option Meeting) → turns_to new o ≤ turns_with m files changes start budget most h new o
  turns-least None = omega arith
  turns-least (Some meeting) = omega arith

module _ {S M : Type 0} (m : Formatter M) (meaning : S → M) (files : Files) (changes : List Change) (old : Rows S) (kept : ℕ) (main : List ℕ) (date : Date) (limits : Limits) where
  -- the new run, as the rows in code tell it, and its meeting with them
  abbrev pub new_run : History M
  new_run = run_behind m files (rows_meant meaning old.rows.items) kept main date limits

  abbrev pub its_meeting : Option Meeting
  its_meeting = meeting_behind m files changes (rows_meant meaning old.rows.items) old.last kept main date limits

  pub made-so : {h : History M} → AreRows meaning old h → reused_by m files changes (start_of m main date) limits.budget (limits.pages - kept) h new_run its_meeting ≡ made_behind m files changes main date limits kept h
  made-so {h = h} are = λ i. reused_by m files changes (start_of m main date) limits.budget (limits.pages - kept) h (run_behind m files (are.rows_are i) kept main date limits) (meeting_behind m files changes (are.rows_are i) (are.last_is i) kept main date limits)

  pub turns-so : {h : History M} → AreRows meaning old h → turns_with m files changes (start_of m main date) limits.budget (limits.pages - kept) h new_run its_meeting ≡ turns_behind m files changes main date limits kept h
  turns-so {h = h} are = λ i. turns_with m files changes (start_of m main date) limits.budget (limits.pages - kept) h (run_behind m files (are.rows_are i) kept main date limits) (meeting_behind m files changes (are.rows_are i) (are.last_is i) kept main date limits)

  -- no more pages than the limit leaves
  new_few : length new_run.pages ≤ limits.pages - kept
  new_few =
      let begun : Begun M = after_rows (start_of m main date) (take kept (rows_meant meaning old.rows.items)) in
      let same : length (run_from m files limits.budget (limits.pages - kept) begun.state begun.opens).ran.pages ≡ length new_run.pages =
      ap (λ c. length c.ran.pages) (rows-tell m files limits.budget (limits.pages - kept) begun.state begun.opens) ∙ length-map new_run.pages (λ page. page.body) in
      omega (arith, same, pages-run_from m files limits.budget (limits.pages - kept) begun.state begun.opens)

  pub record IsFormattedPart (front : Front S) (meeting : Meeting) (number : ℕ) : Type 0 where
    pub size : length front.rows.items ≡ meeting.formatted
    pub few : meeting.formatted ≤ limits.pages - kept
    pub past : kept ≤ number

  pub formatted-part : {front : Front S} {number : ℕ} (reached : ReachedMeeting meaning new_run its_meeting front number) → IsFormattedPart front reached.meeting number
  formatted-part {front = front} reached =
      let within : reached.meeting.formatted ≤ length (rows_in new_run.pages) = first-within m changes old.last (rows_meant meaning old.rows.items) kept (rows_in new_run.pages) reached.meeting reached.some in
      let size : length (rows_in new_run.pages) ≡ length new_run.pages = length-map new_run.pages (λ page. page.row) in
      let few : length new_run.pages ≤ limits.pages - kept = new_few in
      let past : kept ≤ reached.meeting.old = first-past m changes old.last (rows_meant meaning old.rows.items) kept (rows_in new_run.pages) reached.meeting reached.some in
      record {
        size = sym (length-map front.rows.items _) ∙ ap length reached.pages.rows_are ∙ length-map (take reached.meeting.formatted new_run.pages) (λ page. page.row) ∙ length-take-le reached.meeting.formatted new_run.pages (omega arith);
        few = omega arith;
        past = subst (λ n. kept ≤ n) reached.number_is past;
      }

  -- what is reused can be
  pub can-reached : {front : Front S} {number : ℕ} (reached : ReachedMeeting meaning new_run its_meeting front number) → IfSome its_meeting (λ meeting. CanReuse changes meeting.old old.rows.items old.last) → CanReuse changes number old.rows.items old.last
  can-reached reached can = subst (λ n. CanReuse changes n old.rows.items old.last) reached.number_is (subst (λ (o : Option Meeting). IfSome o (λ meeting. CanReuse changes meeting.old old.rows.items old.last)) reached.some can)

  -- where formatting stopped, told at once
  module _ (front : Front S) (reaches : Reaches meaning new_run its_meeting front) where
    module _ {last : Last} (stopped : front.stopped ≡ Over last) where
      abbrev over : ReachedEnd meaning new_run its_meeting front last
      over = reached-end meaning new_run its_meeting front reaches stopped

      pub over-later : {h : History M} (are : AreRows meaning old h) {later : Later S} {rows : Rows S} → later.front.pages ≡ front.pages → later.front.pieces ≡ front.pieces → later.front.rows ≡ front.rows → later.count ≡ 0 → later.further ≡ Goes rows
          → rows.pages.items ≡ [] → rows.pieces.items ≡ [] → rows.rows.items ≡ [] → rows.last ≡ last → IsLater meaning changes old h later (made_behind m files changes main date limits kept h)
      over-later {h = h} are {later = later} pages pieces formatted none goes no_page no_piece no_row last_is =
          subst (IsLater meaning changes old h later) (made-so are)
          (later-over m meaning files changes are (start_of m main date) limits.budget (limits.pages - kept) new_run over pages pieces formatted none goes no_page no_piece no_row last_is)

      pub over-count : 0 ≡ reused_rows limits.pages (length old.rows.items) kept its_meeting
      over-count = sym (ap (reused_rows limits.pages (length old.rows.items) kept) over.none)

    module _ {number : ℕ} (stopped : front.stopped ≡ Met number) where
      abbrev at : ReachedMeeting meaning new_run its_meeting front number
      at = reached-meeting meaning new_run its_meeting front reaches stopped

      abbrev part : IsFormattedPart front at.meeting number
      part = formatted-part at

      pub met-never : its_meeting ≡ None → ⊥
      met-never none = let no : Some at.meeting ≡ None = sym at.some ∙ none in cc

      pub met-few : length front.rows.items ≤ limits.pages - kept
      met-few = let size = part.size in let few = part.few in omega arith

      pub met-can : IfSome its_meeting (λ meeting. CanReuse changes meeting.old old.rows.items old.last) → CanReuse changes number old.rows.items old.last
      met-can = can-reached at

      module _ {formatted left : ℕ} (size : formatted ≡ length front.rows.items) (left_is : left ≡ limits.pages - kept - formatted) where
        left_so : left ≡ limits.pages - kept - at.meeting.formatted
        left_so = left_is ∙ ap (λ n. limits.pages - kept - n) (size ∙ part.size)

        pub met-turns : {h : History M} (are : AreRows meaning old h)
            → turns_to new_run its_meeting + further_turns old.last (further m files limits.budget left (moved_begun changes (after_rows (start_of m main date) (take number (rows_in h.pages)))) (moved files changes (rest_of h number)))
            ≡ turns_behind m files changes main date limits kept h
        met-turns are = turns-met m meaning files changes are (start_of m main date) limits.budget (limits.pages - kept) new_run at left_so ∙ turns-so are

        pub met-count : {count : ℕ} → count ≡ min left (length old.rows.items - number) → count ≡ reused_rows limits.pages (length old.rows.items) kept its_meeting
        met-count count_is =
            count_is ∙ (λ i. min (left_so i) (length old.rows.items - sym at.number_is i)) ∙ sym (ap (reused_rows limits.pages (length old.rows.items) kept) at.some)

        pub met-later : {h : History M} (are : AreRows meaning old h) {later : Later S} → later.front.pages ≡ front.pages → later.front.pieces ≡ front.pieces → later.front.rows ≡ front.rows → later.from ≡ number
            → later.count ≡ min left (length old.rows.items - number)
            → IsFurther meaning changes old.last (further m files limits.budget left (moved_begun changes (after_rows (start_of m main date) (take number (rows_in h.pages)))) (moved files changes (rest_of h number))) later.further
            → IsLater meaning changes old h later (made_behind m files changes main date limits kept h)
        met-later {h = h} are {later = later} pages pieces rows from count further_is =
            subst (IsLater meaning changes old h later) (made-so are)
            (later-met m meaning files changes are (start_of m main date) limits.budget (limits.pages - kept) new_run at pages pieces rows from left_so count further_is)

      pub met-fits : (can : IfSome its_meeting (λ meeting. CanReuse changes meeting.old old.rows.items old.last)) (later : Later S) (left : ℕ) → later.from ≡ number → later.count ≡ min left (length old.rows.items - number) → FitsBehind changes kept old later
      met-fits can later left from count =
          let able = met-can can in
          let within : number ≤ length old.rows.items = able.within in
          let order : kept ≤ number = part.past in
          record {
            order = omega (arith, order, from);
            within = omega (arith, count, from, within);
            rows_can = subst (λ n. All (CanCarryRow changes) (take later.count (drop n old.rows.items))) (sym from) (All-take (CanCarryRow changes) later.count (drop number old.rows.items) able.rows_can);
            last_can = can-further changes old.last later.further able.last_can;
          }
