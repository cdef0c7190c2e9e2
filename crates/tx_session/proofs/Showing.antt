-- What a session keeps shows the fresh run on its files, and after changes the one on the changed files.
use Rattle.std.proofs.Common.{◌≡◌, ℕ, ◌+◌, ◌-◌, ◌*◌, ◌^◌, ◌<◌, ◌≤◌, true, false, cond, List, [], length, get_or, take, drop, Option, Some, None, refl, sym, ap, subst, ◌∙◌, arith}
use Rattle.std.specs.Prelude.{IfSome}
use Rattle.std.proofs.lemmas.List.{length-map, length-take-le}
use Rattle.std.proofs.lemmas.List.Sums.{prefix_len-le-length}
use Rattle.tx_bytes.specs.Files.{Files}
use Rattle.tx_files.specs.declared.edit.Change.{Change}
use Rattle.tx_files.specs.Changes.{all_fit, all_changed, AreSmall}
use Rattle.tx_machine.specs.Machine.{Formatter, IsLawful}
use Rattle.tx_machine.specs.Steps.{raised}
use Rattle.tx_dvi.specs.Page.{Page}
use Rattle.std.specs.Option.{option_map_or}
use Rattle.std.proofs.lemmas.Option.{slice_get-get_or}
use Rattle.tx_machine.proofs.PageCounts.{pages-run_from}
use Rattle.tx_machine.proofs.Running.{turns-run}
use Rattle.tx_checkpoint.specs.Laws.{AreUntouched}
use Rattle.tx_checkpoint.specs.Meant.{AreRows, AreIdle, rows_meant}
use Rattle.tx_checkpoint.specs.Resume.{stays, resume, all_stay, stands, start_of, run_behind}
use Rattle.tx_checkpoint.specs.Rows.{History, rows_in, behind, run_of, all_turns}
use Rattle.tx_checkpoint.specs.declared.row.Row.{Row}
use Rattle.tx_checkpoint.specs.declared.row.Last.{Last}
use Rattle.tx_checkpoint.proofs.Resuming.{resume-rows, stands-rows}
use Rattle.tx_checkpoint.proofs.Standing.{rows-tell, resumes-last, fresh-stands, fresh-resumes}
use Rattle.tx_quiesce.specs.Further.{CanReuse}
use Rattle.tx_quiesce.specs.Later.{AreOfOneLength, turns_behind}
use Rattle.tx_quiesce.specs.Meeting.{Meeting, first_meeting}
use Rattle.tx_quiesce.specs.Reuse.{meeting_behind, reused_by, reused_rows, made_after}
use Rattle.tx_quiesce.proofs.Found.{first-within, tail_is}
use Rattle.tx_quiesce.proofs.Reusable.{can-reuse, can-unmeant}
use Rattle.tx_session.proofs.Reusing.{seam_at, turns-are, reused-few, work-least}
use Rattle.tx_session.specs.declared.kept.Made.{Made}
use Rattle.tx_session.specs.Held.{Held, fresh, rows_of, body_of, transcript, joined_with, with_files, changed_session}
use Rattle.tx_session.specs.Made.{Becomes, IsSaid}
use Rattle.tx_session.specs.Report.{report_of, resumed_at, meeting_of, formatted_turns, report, work}
use Rattle.tx_session.specs.Shows.{Shows}

-- a count that has risen by no more than so much is within the sum
pub raised-within : (before now turns most : ℕ) → now ≤ raised before turns → turns ≤ most → now ≤ before + most
raised-within before now turns most counted few = omega arith

-- the n-th page of some
pub body-at : (pages : List Page) (n : ℕ) (page : Page) → page ≡ get_or pages (n - 1) page → n - 1 < length pages → page.body ≡ body_of pages n
body-at pages n page is within = ap (λ it. it.body) is ∙ sym (ap (λ found. option_map_or (λ it. it.body) found []) (slice_get-get_or pages (n - 1) page within))

-- the fresh run is told by its rows
module _ {M : Type 0} (m : Formatter M) (held : Held) where
  pub fresh-tells : fresh m held ≡ run_of (rows_of m held)
  fresh-tells = rows-tell m held.files held.limits.budget held.limits.pages (m.start held.date held.main) []

  pub fresh-turns : all_turns (rows_of m held) ≡ (fresh m held).turns
  fresh-turns = sym (ap (λ c. c.turns) fresh-tells)

  pub fresh-bound : IsLawful m → (fresh m held).turns ≤ (length (fresh m held).ran.pages + 1) * held.limits.budget
  fresh-bound lawful = turns-run m held.files held.limits.budget lawful held.limits.pages (m.start held.date held.main) []

  pub fresh-few : length (rows_of m held).pages ≤ held.limits.pages
  fresh-few =
      let few : length (fresh m held).ran.pages ≤ held.limits.pages = pages-run_from m held.files held.limits.budget held.limits.pages (m.start held.date held.main) [] in
      let same : length (fresh m held).ran.pages ≡ length (rows_of m held).pages = ap (λ c. length c.ran.pages) fresh-tells ∙ length-map (rows_of m held).pages (λ page. page.body) in
      omega arith

module _ {S M : Type 0} {m : Formatter M} {meaning : S → M} {pending : S → List ℕ} {held : Held} {made : Made S} (shows : Shows m meaning pending held made) where
  pub shown-pages : made.rows.pages.items ≡ (fresh m held).ran.pages
  shown-pages = shows.rows.pages_are ∙ sym (ap (λ c. c.ran.pages) (fresh-tells m held))

  pub shown-pieces : made.rows.pieces.items ≡ (fresh m held).ran.pieces
  shown-pieces = shows.rows.pieces_are ∙ sym (ap (λ c. c.ran.pieces) (fresh-tells m held))

  pub shown-end : made.rows.last.end ≡ (fresh m held).ran.end
  shown-end = ap (λ last. last.end) shows.rows.last_is ∙ sym (ap (λ c. c.ran.end) (fresh-tells m held))

  pub shown-said : made.said ≡ transcript (fresh m held).ran
  shown-said = shows.said ∙ (λ i. joined_with (shows.rows.pieces_are i) (shows.rows.last_is i).piece) ∙ sym (ap (λ c. transcript c.ran) (fresh-tells m held))

  pub shown-few : length made.rows.pages.items ≤ held.limits.pages
  shown-few =
      let same : length made.rows.pages.items ≡ length (rows_of m held).pages = ap length shows.rows.pages_are ∙ length-map (rows_of m held).pages (λ page. page.body) in
      let few : length (rows_of m held).pages ≤ held.limits.pages = fresh-few m held in
      omega arith

  rows_length : length made.rows.rows.items ≡ length (rows_of m held).pages
  rows_length = sym (length-map made.rows.rows.items _) ∙ ap length shows.rows.rows_are ∙ length-map (rows_of m held).pages (λ page. page.row)

  pieces_length : length made.rows.pieces.items ≡ length (rows_of m held).pages
  pieces_length = ap length shows.rows.pieces_are ∙ length-map (rows_of m held).pages (λ page. page.piece)

  module _ (changes : List Change) where
    abbrev kept : ℕ
    kept = resume made.rows.rows.items changes

    kept_is : kept ≡ resume (rows_in (rows_of m held).pages) changes
    kept_is = resume-rows meaning changes shows.rows

    pub kept-rows : kept ≤ length made.rows.rows.items
    kept-rows = prefix_len-le-length (stays changes) made.rows.rows.items

    pub kept-pieces : kept ≤ length made.rows.pieces.items
    kept-pieces = let within : kept ≤ length made.rows.rows.items = kept-rows in let rows = rows_length in let pieces = pieces_length in omega arith

    pub kept-fewer : kept ≤ held.limits.pages
    kept-fewer = let within : kept ≤ length made.rows.rows.items = kept-rows in let rows = rows_length in let few : length (rows_of m held).pages ≤ held.limits.pages = fresh-few m held in omega arith

    pub kept-small : kept < 2 ^ 32
    kept-small = let fewer : kept ≤ held.limits.pages = kept-fewer in omega (arith, shows.limited.pages.1)

    module _ {files : Files} (fits : all_fit held.files changes ≡ true) (changed : files ≡ all_changed held.files changes) where
      abbrev pub old : History M
      old = rows_of m held

      abbrev pub edited_run : History M
      edited_run = rows_of m (changed_session held changes)

      -- everything stands
      standing : all_stay made.rows.rows.items made.rows.last changes ≡ true → stands (rows_of m held) changes ≡ true
      standing stay = sym (stands-rows meaning changes shows.rows) ∙ stay

      still : all_stay made.rows.rows.items made.rows.last changes ≡ true → rows_of m (with_files held files) ≡ rows_of m held
      still stay = ap (λ now. rows_of m (with_files held now)) changed ∙ fresh-stands m held.files changes held.main held.date held.limits fits (standing stay)

      pub shows-still : all_stay made.rows.rows.items made.rows.last changes ≡ true → Shows m meaning pending (with_files held files) made
      shows-still stay = record {
        dated = shows.dated;
        limited = shows.limited;
        rows = subst (AreRows meaning made.rows) (sym (still stay)) shows.rows;
        idle = shows.idle;
        said = shows.said;
      }

      pub work-still : all_stay made.rows.rows.items made.rows.last changes ≡ true → work m held changes ≡ 0
      work-still stay = ap (λ b. cond b 0 (formatted_turns (resumed_at old changes) (reused_rows held.limits.pages (length old.pages) (resumed_at old changes) (meeting_of m changes old edited_run)) old edited_run (meeting_of m changes old edited_run))) (standing stay)

      pages_after : (new : Made S) → Shows m meaning pending (with_files held files) new → length new.rows.pages.items ≡ length edited_run.pages
      pages_after new shown = ap length shown.rows.pages_are ∙ length-map (rows_of m (with_files held files)).pages (λ page. page.body) ∙ ap (λ now. length (rows_of m (with_files held now)).pages) changed

      pub report-still : all_stay made.rows.rows.items made.rows.last changes ≡ true → report_of (length made.rows.pages.items) (length made.rows.pages.items) 0 ≡ report m held changes
      report-still stay =
          let pages : length made.rows.pages.items ≡ length edited_run.pages = pages_after made (shows-still stay) in
          (λ i. report_of (pages i) (pages i) 0)
          ∙ sym (ap (λ b. cond b (report_of (length edited_run.pages) (length edited_run.pages) 0) (report_of (length edited_run.pages) (resumed_at old changes) (reused_rows held.limits.pages (length old.pages) (resumed_at old changes) (meeting_of m changes old edited_run)))) (standing stay))

      -- formatting resumes, and goes on until a new row meets an old one
      abbrev rest : History M
      rest = run_behind m files (rows_in old.pages) kept held.main held.date held.limits

      abbrev pub its_meeting : Option Meeting
      its_meeting = meeting_behind m files changes (rows_in old.pages) old.last kept held.main held.date held.limits

      -- as the rows in code tell it
      abbrev pub meeting_told : Option Meeting
      meeting_told = meeting_behind m files changes (rows_meant meaning made.rows.rows.items) made.rows.last kept held.main held.date held.limits

      pub told_is : meeting_told ≡ its_meeting
      told_is = λ i. meeting_behind m files changes (shows.rows.rows_are i) (shows.rows.last_is i) kept held.main held.date held.limits

      untouched_rows : AreUntouched (rows_in old.pages) kept changes
      untouched_rows = subst (λ i. AreUntouched (rows_in old.pages) i changes) (sym kept_is) (resumes-last (rows_in old.pages) changes).untouched

      kept_length : length (take kept old.pages) ≡ kept
      kept_length = length-take-le kept old.pages (let within : kept ≤ length made.rows.rows.items = kept-rows in let rows = rows_length in omega arith)

      resumes : rows_of m (with_files held files) ≡ behind (take kept old.pages) rest
      resumes =
          ap (λ now. rows_of m (with_files held now)) changed
          ∙ fresh-resumes m held.files changes held.main held.date held.limits fits kept untouched_rows
          ∙ ap (λ now. behind (take kept old.pages) (run_behind m now (rows_in old.pages) kept held.main held.date held.limits)) (sym changed)

      edited_is : edited_run ≡ behind (take kept old.pages) rest
      edited_is = ap (λ now. rows_of m (with_files held now)) (sym changed) ∙ resumes

      not_standing : all_stay made.rows.rows.items made.rows.last changes ≡ false → stands old changes ≡ false
      not_standing stay = sym (stands-rows meaning changes shows.rows) ∙ stay

      meeting_is : meeting_of m changes old edited_run ≡ its_meeting
      meeting_is =
          (λ i. first_meeting m changes (rows_in old.pages) old.last (sym kept_is i) (rows_in (drop (sym kept_is i) (edited_is i).pages)))
          ∙ ap (λ pages. first_meeting m changes (rows_in old.pages) old.last kept (rows_in pages)) (seam_at kept (take kept old.pages) rest.pages kept_length)

      formatted_within : (o : Option Meeting) → its_meeting ≡ o → IfSome o (λ meeting. meeting.formatted ≤ length rest.pages)
      formatted_within None is = tt
      formatted_within (Some meeting) is = subst (λ n. meeting.formatted ≤ n) (length-map rest.pages (λ page. page.row)) (first-within m changes old.last (rows_in old.pages) kept (rows_in rest.pages) meeting is)

      abbrev pub many : ℕ
      many = reused_rows held.limits.pages (length old.pages) kept its_meeting

      pub reused-told : reused_rows held.limits.pages (length made.rows.rows.items) kept meeting_told ≡ many
      reused-told = λ i. reused_rows held.limits.pages (rows_length i) kept (told_is i)

      module _ (lawful : IsLawful m) where
        rest_is : rest ≡ reused_by m files changes (start_of m held.main held.date) held.limits.budget (held.limits.pages - kept) old rest its_meeting
        rest_is = subst (λ now. run_behind m now (rows_in old.pages) kept held.main held.date held.limits ≡ reused_by m now changes (start_of m held.main held.date) held.limits.budget (held.limits.pages - kept) old (run_behind m now (rows_in old.pages) kept held.main held.date held.limits) (meeting_behind m now changes (rows_in old.pages) old.last kept held.main held.date held.limits))
            (sym changed) (tail_is m lawful held.files changes held.main held.date held.limits fits kept (meeting_behind m (all_changed held.files changes) changes (rows_in old.pages) old.last kept held.main held.date held.limits) refl)

        pub remade : rows_of m (with_files held files) ≡ made_after m files changes held.main held.date held.limits kept old
        remade = resumes ∙ ap (behind (take kept old.pages)) rest_is

        pub shows-on : (new : Made S) → Becomes meaning made.rows (made_after m files changes held.main held.date held.limits kept) new.rows → AreIdle m meaning pending new.rows.rows.items → IsSaid new → Shows m meaning pending (with_files held files) new
        shows-on new becomes idle said = record {
          dated = shows.dated;
          limited = shows.limited;
          rows = subst (AreRows meaning new.rows) (sym remade) (becomes old shows.rows);
          idle = idle;
          said = said;
        }

        pub work-on : all_stay made.rows.rows.items made.rows.last changes ≡ false → work m held changes ≡ turns_behind m files changes held.main held.date held.limits kept old
        work-on stay =
            ap (λ b. cond b 0 (formatted_turns (resumed_at old changes) (reused_rows held.limits.pages (length old.pages) (resumed_at old changes) (meeting_of m changes old edited_run)) old edited_run (meeting_of m changes old edited_run))) (not_standing stay)
            ∙ (λ i. formatted_turns (sym kept_is i) (reused_rows held.limits.pages (length old.pages) (sym kept_is i) (meeting_is i)) old (edited_is i) (meeting_is i))
            ∙ turns-are m files changes (start_of m held.main held.date) held.limits.budget held.limits.pages kept old rest (take kept old.pages) kept_length its_meeting rest_is (formatted_within its_meeting refl)

        pub reused-within : (new : Made S) → Shows m meaning pending (with_files held files) new → kept + many ≤ length new.rows.pages.items
        reused-within new shown =
            subst (λ n. kept + many ≤ n) (sym (ap length shown.rows.pages_are ∙ length-map (rows_of m (with_files held files)).pages (λ page. page.body) ∙ ap (λ h. length h.pages) resumes))
            (reused-few m files changes (start_of m held.main held.date) held.limits.budget held.limits.pages kept old rest (take kept old.pages) kept_length its_meeting rest_is (formatted_within its_meeting refl))

      pub report-told : all_stay made.rows.rows.items made.rows.last changes ≡ false → (pages : ℕ) → pages ≡ length edited_run.pages → report_of pages kept many ≡ report m held changes
      report-told stay pages is =
          (λ i. report_of (is i) (kept_is i) (reused_rows held.limits.pages (length old.pages) (kept_is i) (sym meeting_is i)))
          ∙ sym (ap (λ b. cond b (report_of (length edited_run.pages) (length edited_run.pages) 0) (report_of (length edited_run.pages) (resumed_at old changes) (reused_rows held.limits.pages (length old.pages) (resumed_at old changes) (meeting_of m changes old edited_run)))) (not_standing stay))

      pub report-on : all_stay made.rows.rows.items made.rows.last changes ≡ false → (new : Made S) → Shows m meaning pending (with_files held files) new
          → report_of (length new.rows.pages.items) kept many ≡ report m held changes
      report-on stay new shown = report-told stay (length new.rows.pages.items) (pages_after new shown)

      -- what is reused can be
      pub can-be : AreSmall held.files changes → IfSome meeting_told (λ meeting. CanReuse changes meeting.old made.rows.rows.items made.rows.last)
      can-be small = by meeting_told refl
        where
          by : (o : Option Meeting) → meeting_told ≡ o → IfSome o (λ meeting. CanReuse changes meeting.old made.rows.rows.items made.rows.last)
          by None is = tt
          by (Some meeting) is =
              let can : CanReuse changes meeting.old (rows_in old.pages) old.last =
              can-reuse m held.files changes held.main held.date held.limits fits small kept meeting
              (ap (λ now. meeting_behind m now changes (rows_in old.pages) old.last kept held.main held.date held.limits) (sym changed) ∙ sym told_is ∙ is) in
              can-unmeant meaning changes meeting.old made.rows.rows.items made.rows.last
              (subst (λ (last : Last). CanReuse changes meeting.old (rows_meant meaning made.rows.rows.items) last) (sym shows.rows.last_is) (subst (λ (rows : List (Row M)). CanReuse changes meeting.old rows old.last) (sym shows.rows.rows_are) can))

      pub one-length : AreOfOneLength made.rows
      one-length = record { pages_are = (ap length shows.rows.pages_are ∙ length-map old.pages (λ page. page.body)) ∙ sym rows_length; pieces_are = pieces_length ∙ sym rows_length }

      -- the work is within all turns of the run on the changed files
      pub work-bound : IsLawful m → work m held changes ≤ (length (fresh m (changed_session held changes)).ran.pages + 1) * held.limits.budget
      work-bound lawful =
          let least : work m held changes ≤ all_turns edited_run = work-least m changes held.limits.pages old edited_run in
          let same : all_turns edited_run ≡ (fresh m (changed_session held changes)).turns = fresh-turns m (changed_session held changes) in
          let most : (fresh m (changed_session held changes)).turns ≤ (length (fresh m (changed_session held changes)).ran.pages + 1) * held.limits.budget = fresh-bound m (changed_session held changes) lawful in
          omega arith
