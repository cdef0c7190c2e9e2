-- What changes of a run that is kept come to.
use Rattle.std.proofs.Common.{◌≡◌, ℕ, ◌+◌, ◌-◌, ◌≤◌, Bool, true, false, cond, ◌&&◌, nat_le, List, [], ◌++◌, length, map, take, drop, Option, Some, None, refl, sym, ap, subst, ◌∙◌, true≢false, arith, append-nil}
use Rattle.std.proofs.lemmas.List.{length-map, length-append, length-take-le}
use Rattle.tx_bytes.specs.Files.{Files}
use Rattle.tx_files.specs.declared.edit.Change.{Change}
use Rattle.tx_files.specs.Changes.{all_fit, all_changed, AreSmall}
use Rattle.tx_machine.specs.declared.types.End.{End as RunEnd}
use Rattle.tx_machine.specs.declared.types.End.TheVariants.{End, Error, Budget, PageLimit}
use Rattle.tx_machine.specs.Machine.{Formatter, IsLawful}
use Rattle.tx_checkpoint.specs.declared.row.Row.{Row}
use Rattle.tx_checkpoint.specs.declared.row.Last.{Last}
use Rattle.tx_checkpoint.specs.Meant.{AreRows, AreIdle, AreSame, rows_meant}
use Rattle.tx_checkpoint.specs.Resume.{Begun, resume, all_stay, after_rows, start_of, run_behind}
use Rattle.tx_checkpoint.specs.Rows.{History, rows_in, rows_from, at_limit, only, behind}
use Rattle.tx_quiesce.specs.declared.further.Further.{Further}
use Rattle.tx_quiesce.specs.declared.further.Further.TheVariants.{Goes, Stands}
use Rattle.tx_quiesce.specs.declared.later.Later.{Later}
use Rattle.tx_quiesce.specs.Later as laters
use Rattle.tx_quiesce.specs.Later.{AreReused, HasNoPage, IsLater, LaterIsIdle, last_of}
use Rattle.tx_quiesce.specs.Limits.{is_page_limit}
use Rattle.tx_quiesce.specs.Meeting.{Meeting}
use Rattle.tx_quiesce.specs.Moves.{carried_row, carried_opens}
use Rattle.tx_quiesce.specs.Shift.{end_now}
use Rattle.tx_quiesce.specs.Reuse.{moved, moved_begun, rest_of, further, reused_by, reused_rows, meeting_behind, made_behind}
use Rattle.tx_quiesce.proofs.Carried.{LaterTells, later-tells, reused-rows, reused-idle}
use Rattle.tx_session.specs.declared.kept.Cut.{Cut}
use Rattle.tx_session.specs.declared.kept.Made.{Made}
use Rattle.tx_session.specs.Cut.{end_of, are_small, IsLed, IsCut}
use Rattle.tx_session.specs.Held.{Held, fresh, rows_of, joined_with, with_files}
use Rattle.tx_session.specs.Made.{last_piece, pieces_after}
use Rattle.tx_session.specs.Report.{report_of, report, work}
use Rattle.tx_session.specs.Shows.{Shows}
use Rattle.tx_session.specs.Standing.{now, is_whole, is_cut, keeps}
use Rattle.tx_session.proofs.Saying.{last-said, is-said}
use Rattle.tx_session.proofs.Showing.{fresh-tells, shown-end, kept-rows, one-length, remade, its_meeting, meeting_told, told_is, many, reused-told, reused-within, report-told, report-on, shows-still, work-on}
use Rattle.tx_session.proofs.Standings.{all_changed-append, all_fit-append, are_small-append, both-true, small-told, whole-not-cut}

end-last : {S : Type 0} (changes : List Change) (last : Last) (f : Further S) → end_of f ≡ (last_of changes last f).end
end-last changes last (Goes rows) = refl
end-last changes last (Stands end) = refl

no-page : {S : Type 0} (f : Further S) → HasNoPage f → (laters.pages_of f ≡ []) × (laters.pieces_of f ≡ []) × (laters.rows_of f ≡ [])
no-page (Goes rows) none = none
no-page (Stands end) none = absurd none

nothing-behind : {X : Type 0} (front : List X) {middle more : List X} → middle ≡ [] → more ≡ [] → front ++ (middle ++ more) ≡ front
nothing-behind front no_middle no_more = (λ i. front ++ (no_middle i ++ no_more i)) ∙ append-nil front

kept-parts : (a b c : Bool) → (a && b && c) ≡ true → (a ≡ true) × (b ≡ true)
kept-parts true true c is = (refl, refl)
kept-parts true false c is = absurd (let no : false ≡ true = is in cc)
kept-parts false b c is = absurd (let no : false ≡ true = is in cc)

-- of the ends of runs one is that of the text
whole-end : (end : RunEnd) → is_whole end ≡ true → end ≡ End
whole-end End is = refl
whole-end (Error code name line) is = absurd (let no : false ≡ true = is in cc)
whole-end Budget is = absurd (let no : false ≡ true = is in cc)
whole-end PageLimit is = absurd (let no : false ≡ true = is in cc)

-- what comes behind a run that ended by the end of its text isn't cut off
further-end : {S : Type 0} (m : Formatter S) (files : Files) (budget left : ℕ) (begun : Begun S) (rest : History S) → rest.last.end ≡ End → is_cut (further m files budget left begun rest).last.end ≡ false
further-end {S = S} m files budget left begun rest is = by (nat_le left (length rest.pages))
  where
    by : (b : Bool) → is_cut (cond {A = History S} b (only (at_limit (after_rows begun (rows_in (take left rest.pages))).opens))
        (cond {A = History S} (is_page_limit rest.last.end) (rows_from m files budget (left - length rest.pages) (after_rows begun (rows_in rest.pages)).state (after_rows begun (rows_in rest.pages)).opens) (only rest.last))).last.end ≡ false
    by true = refl
    by false =
        ap (λ (end : RunEnd). is_cut (cond {A = History S} (is_page_limit end) (rows_from m files budget (left - length rest.pages) (after_rows begun (rows_in rest.pages)).state (after_rows begun (rows_in rest.pages)).opens) (only rest.last)).last.end) is
        ∙ ap is_cut is

-- so a run that is cut off though the one before ended by the end of its text meets that one nowhere
unmet : {S : Type 0} (m : Formatter S) (files : Files) (changes : List Change) (start : Begun S) (budget most : ℕ) (old new : History S) (o : Option Meeting) → old.last.end ≡ End
    → is_cut (reused_by m files changes start budget most old new o).last.end ≡ true → o ≡ None
unmet m files changes start budget most old new None whole is = refl
unmet m files changes start budget most old new (Some meeting) whole is =
    let not_cut : is_cut (reused_by m files changes start budget most old new (Some meeting)).last.end ≡ false =
    further-end m files budget (most - meeting.formatted) (moved_begun changes (after_rows start (take meeting.old (rows_in old.pages)))) (moved files changes (rest_of old meeting.old))
    (ap (end_now files (carried_opens changes old.last.opens)) whole) in
    absurd (true≢false (sym is ∙ not_cut))

-- the same run, in memory of its own
pub shows-same : {S M : Type 0} {m : Formatter M} {meaning : S → M} {pending : S → List ℕ} {held : Held} {made : Made S} (new : Made S) → Shows m meaning pending held made → AreSame made.rows new.rows → new.said ≡ made.said → Shows m meaning pending held new
shows-same {m = m} {meaning = meaning} {pending = pending} new shows same said = record {
  dated = shows.dated;
  limited = shows.limited;
  rows = record {
    pages_are = same.pages_are ∙ shows.rows.pages_are;
    pieces_are = same.pieces_are ∙ shows.rows.pieces_are;
    rows_are = ap (rows_meant meaning) same.rows_are ∙ shows.rows.rows_are;
    last_is = same.last_is ∙ shows.rows.last_is;
  };
  idle = subst (AreIdle m meaning pending) (sym same.rows_are) shows.idle;
  said = said ∙ shows.said ∙ sym (λ i. joined_with (same.pieces_are i) (same.last_is i).piece);
}

pub cut-same : {S M : Type 0} {meaning : S → M} {made : Made S} {cut : Cut S} {h : History M} (new : Made S) → IsCut meaning made cut h → AreSame made.rows new.rows → IsCut meaning new cut h
cut-same {S = S} {meaning = meaning} {cut = cut} new is same = record {
  within = subst (λ (rows : List (Row S)). cut.kept ≤ length rows) (sym same.rows_are) is.within;
  pages_are = ap (λ pages. take cut.kept pages ++ cut.part.pages.items) same.pages_are ∙ is.pages_are;
  pieces_are = ap (λ pieces. take cut.kept pieces ++ cut.part.pieces.items) same.pieces_are ∙ is.pieces_are;
  rows_are = ap (λ rows. rows_meant meaning (take cut.kept rows ++ cut.part.rows.items)) same.rows_are ∙ is.rows_are;
  last_is = is.last_is;
  said = is.said ∙ ap (λ pieces. joined_with (take cut.kept pieces ++ cut.part.pieces.items) cut.last.piece) (sym same.pieces_are);
}

module _ {S M : Type 0} {m : Formatter M} {meaning : S → M} {pending : S → List ℕ} {base : Files} {held : Held} {made : Made S} {changes : List Change} (led : IsLed m meaning pending base held made changes) where
  abbrev before : Held
  before = with_files held base

  abbrev old : History M
  old = rows_of m before

  abbrev kept : ℕ
  kept = resume made.rows.rows.items changes

  -- the same run in memory of its own, and changes behind these
  pub led-same : (new : Made S) → AreSame made.rows new.rows → new.said ≡ made.said → IsLed m meaning pending base held new changes
  led-same new same said = record { shows = shows-same new led.shows same said; fits = led.fits; small = led.small; led = led.led }

  pub led-on : {files : Files} (others : List Change) → all_fit held.files others ≡ true → AreSmall held.files others → files ≡ all_changed held.files others
      → IsLed m meaning pending base (with_files held files) made (changes ++ others)
  led-on others fit are_few is = record {
    shows = led.shows;
    fits = all_fit-append base changes others ∙ both-true (all_fit base changes) (all_fit (all_changed base changes) others) led.fits (ap (λ now. all_fit now others) (sym led.led) ∙ fit);
    small = are_small-append base changes others ∙ both-true (are_small base changes) (are_small (all_changed base changes) others) led.small (ap (λ now. are_small now others) (sym led.led) ∙ small-told held.files others are_few);
    led = is ∙ ap (λ now. all_changed now others) led.led ∙ sym (all_changed-append base changes others);
  }

  -- how the run on the files as they are now ends
  fresh_end : (rows_of m held).last.end ≡ (fresh m (now (record { base = before; since = changes }))).ran.end
  fresh_end = sym (ap (λ c. c.ran.end) (fresh-tells m held)) ∙ ap (λ files. (fresh m (with_files held files)).ran.end) led.led

  -- everything stands
  pub settled-still : all_stay made.rows.rows.items made.rows.last changes ≡ true → keeps m 1000 (record { base = before; since = changes }) ≡ false
  settled-still stay =
      let ends : (fresh m (now (record { base = before; since = changes }))).ran.end ≡ made.rows.last.end =
      sym fresh_end ∙ sym (ap (λ last. last.end) (shows-still led.shows changes led.fits led.led stay).rows.last_is) in
      (λ i. is_whole (sym (shown-end led.shows) i) && is_cut (ends i) && nat_le (length changes) 1000) ∙ whole-not-cut made.rows.last.end (nat_le (length changes) 1000)

  -- formatting resumes; what is made beside is told for the row at which it does
  pub record IsToldAt (later : Later S) (n : ℕ) : Type 0 where
    pub is : IsLater meaning changes made.rows old later (made_behind m held.files changes held.main held.date held.limits n old)
    pub count : later.count ≡ reused_rows held.limits.pages (length made.rows.rows.items) n (meeting_behind m held.files changes (rows_meant meaning made.rows.rows.items) made.rows.last n held.main held.date held.limits)
    pub alone : meeting_behind m held.files changes (rows_meant meaning made.rows.rows.items) made.rows.last n held.main held.date held.limits ≡ None → HasNoPage later.further

  pub told-at : {later : Later S} {n : ℕ} → n ≡ kept → IsToldAt later n → IsToldAt later kept
  told-at {later} is told = subst (IsToldAt later) is told

  -- its turns are the work of the changes
  pub turns-on : IsLawful m → all_stay made.rows.rows.items made.rows.last changes ≡ false → {n : ℕ} → n ≡ kept → laters.turns_behind m held.files changes held.main held.date held.limits n old ≡ work m before changes
  turns-on lawful stay is =
      ap (λ n. laters.turns_behind m held.files changes held.main held.date held.limits n old) is ∙ sym (work-on led.shows changes led.fits led.led lawful stay)

  module _ (lawful : IsLawful m) {later : Later S} (told : IsToldAt later kept) where
    abbrev behind_it : History M
    behind_it = made_behind m held.files changes held.main held.date held.limits kept old

    now_is : rows_of m held ≡ behind (take kept old.pages) behind_it
    now_is = remade led.shows changes led.fits led.led lawful

    tells : LaterTells meaning changes made.rows kept later (behind (take kept old.pages) behind_it)
    tells = later-tells meaning changes led.shows.rows told.is

    -- the code knows whether the earlier run is to be kept
    end_is : end_of later.further ≡ behind_it.last.end
    end_is = end-last changes made.rows.last later.further ∙ ap (λ last. last.end) tells.last

    pub keeps-told : (is_whole made.rows.last.end && is_cut (end_of later.further) && nat_le (length changes) 1000) ≡ keeps m 1000 (record { base = before; since = changes })
    keeps-told =
        let ends : end_of later.further ≡ (fresh m (now (record { base = before; since = changes }))).ran.end = end_is ∙ sym (ap (λ h. h.last.end) now_is) ∙ fresh_end in
        λ i. is_whole (shown-end led.shows i) && is_cut (ends i) && nat_le (length changes) 1000

    -- it is taken over
    module _ {new : Made S} (idle : LaterIsIdle m meaning pending later) (are : AreReused changes made.rows kept later new.rows)
        (said : new.said ≡ joined_with (pieces_after made.rows kept later) (last_piece made.rows.last.piece later.further)) where
      pub taken-shows : Shows m meaning pending held new
      taken-shows = record {
        dated = led.shows.dated;
        limited = led.shows.limited;
        rows = subst (AreRows meaning new.rows) (sym now_is) (reused-rows meaning changes led.shows.rows told.is are);
        idle = reused-idle m meaning pending changes led.shows.idle idle are;
        said = is-said changes made are said;
      }

      count_is : later.count ≡ many led.shows changes led.fits led.led
      count_is = told.count ∙ reused-told led.shows changes led.fits led.led

      pub taken-within : kept + later.count ≤ length new.rows.pages.items
      taken-within =
          let within : kept + many led.shows changes led.fits led.led ≤ length new.rows.pages.items = reused-within led.shows changes led.fits led.led lawful new taken-shows in
          omega (arith, within, count_is)

      pub taken-report : all_stay made.rows.rows.items made.rows.last changes ≡ false → report_of (length new.rows.pages.items) kept later.count ≡ report m before changes
      taken-report stay = ap (report_of (length new.rows.pages.items) kept) count_is ∙ report-on led.shows changes led.fits led.led stay new taken-shows

    -- or it meets the run before nowhere
    module _ (kept_so : (is_whole made.rows.last.end && is_cut (end_of later.further) && nat_le (length changes) 1000) ≡ true) where
      ends_so : (is_whole made.rows.last.end ≡ true) × (is_cut (end_of later.further) ≡ true)
      ends_so = kept-parts (is_whole made.rows.last.end) (is_cut (end_of later.further)) (nat_le (length changes) 1000) kept_so

      none : its_meeting led.shows changes led.fits led.led ≡ None
      none = unmet m held.files changes (start_of m held.main held.date) held.limits.budget (held.limits.pages - kept) old (run_behind m held.files (rows_in old.pages) kept held.main held.date held.limits)
          (its_meeting led.shows changes led.fits led.led) (whole-end old.last.end (ap (λ last. is_whole last.end) (sym led.shows.rows.last_is) ∙ ends_so.0)) (ap is_cut (sym end_is) ∙ ends_so.1)

      none-told : meeting_told led.shows changes led.fits led.led ≡ None
      none-told = told_is led.shows changes led.fits led.led ∙ none

      pub has-no-page : HasNoPage later.further
      has-no-page = told.alone none-told

      no_more : (laters.pages_of later.further ≡ []) × (laters.pieces_of later.further ≡ []) × (laters.rows_of later.further ≡ [])
      no_more = no-page later.further has-no-page

      no_count : later.count ≡ 0
      no_count = told.count ∙ ap (reused_rows held.limits.pages (length made.rows.rows.items) kept) none-told

      module _ {cut : Cut S} (kept_is : cut.kept ≡ kept) (part_is : cut.part ≡ later.front) (last_is : cut.last ≡ last_of changes made.rows.last later.further)
          (said_is : cut.said ≡ joined_with (pieces_after made.rows kept later) (last_piece made.rows.last.piece later.further)) where
        pub is-cut : IsCut meaning made cut (rows_of m held)
        is-cut = record {
          within = subst (λ n. n ≤ length made.rows.rows.items) (sym kept_is) (kept-rows led.shows changes);
          pages_are = (λ i. take (kept_is i) made.rows.pages.items ++ (part_is i).pages.items)
              ∙ ap (λ rest. take kept made.rows.pages.items ++ rest) (sym (nothing-behind later.front.pages.items (ap (λ n. take n (drop later.from made.rows.pages.items)) no_count) no_more.0))
              ∙ tells.pages ∙ sym (ap (λ h. map (λ page. page.body) h.pages) now_is);
          pieces_are = (λ i. take (kept_is i) made.rows.pieces.items ++ (part_is i).pieces.items)
              ∙ ap (λ rest. take kept made.rows.pieces.items ++ rest) (sym (nothing-behind later.front.pieces.items (ap (λ n. take n (drop later.from made.rows.pieces.items)) no_count) no_more.1))
              ∙ tells.pieces ∙ sym (ap (λ h. map (λ page. page.piece) h.pages) now_is);
          rows_are = (λ i. rows_meant meaning (take (kept_is i) made.rows.rows.items ++ (part_is i).rows.items))
              ∙ ap (λ rest. rows_meant meaning (take kept made.rows.rows.items ++ rest)) (sym (nothing-behind later.front.rows.items (ap (λ n. map (carried_row changes) (take n (drop later.from made.rows.rows.items))) no_count) no_more.2))
              ∙ tells.rows ∙ sym (ap (λ h. rows_in h.pages) now_is);
          last_is = last_is ∙ tells.last ∙ sym (ap (λ h. h.last) now_is);
          said = said_is
              ∙ (λ i. joined_with (take (sym kept_is i) made.rows.pieces.items ++ (nothing-behind later.front.pieces.items (ap (λ n. take n (drop later.from made.rows.pieces.items)) no_count) no_more.1 ∙ ap (λ part. part.pieces.items) (sym part_is)) i)
              ((sym (last-said changes made.rows.last later.further) ∙ ap (λ last. last.piece) (sym last_is)) i));
        }

        -- the pages, counted
        pub cut-pages : cut.kept + length cut.part.pages.items ≡ length (rows_of m held).pages
        cut-pages =
            let lengths : length made.rows.pages.items ≡ length made.rows.rows.items = (one-length led.shows changes led.fits led.led).pages_are in
            let taken : length (take cut.kept made.rows.pages.items) ≡ cut.kept = length-take-le cut.kept made.rows.pages.items (omega (arith, is-cut.within, lengths)) in
            ap (λ n. n + length cut.part.pages.items) (sym taken) ∙ sym (length-append (take cut.kept made.rows.pages.items) cut.part.pages.items)
            ∙ ap length is-cut.pages_are ∙ length-map (rows_of m held).pages (λ page. page.body)

        pub report-cut : all_stay made.rows.rows.items made.rows.last changes ≡ false → report_of (cut.kept + length cut.part.pages.items) kept 0 ≡ report m before changes
        report-cut stay =
            ap (report_of (cut.kept + length cut.part.pages.items) kept) (sym (ap (reused_rows held.limits.pages (length old.pages) kept) none))
            ∙ report-told led.shows changes led.fits led.led stay (cut.kept + length cut.part.pages.items) (cut-pages ∙ ap (λ files. length (rows_of m (with_files held files)).pages) led.led)
