use Rattle.std.proofs.Common.{◌≤◌, ◌<◌, ◌+◌, ◌^◌, length, sym, ap, subst, ◌∙◌, arith, refl}
use Rattle.std.specs.Prelude.{IfSome}
use Rattle.tx_machine.specs.Steps.{raised}
use Rattle.tx_machine.proofs.Going.{raised-zero}
use Rattle.tx_checkpoint.specs.Meant.{rows_meant}
use Rattle.tx_checkpoint.specs.Resume.{resume}
use Rattle.tx_quiesce.specs.Further.{CanReuse}
use Rattle.tx_quiesce.specs.Later.{AreReused}
use Rattle.tx_quiesce.specs.Meeting.{Meeting}
use Rattle.tx_quiesce.specs.Reuse.{meeting_behind}
use Rattle.tx_session.specs.Held.{held_of, rows_of, joined_with}
use Rattle.tx_session.specs.Made.{pieces_after, last_piece}
use Rattle.tx_session.specs.Report.{report_of}
use Rattle.tx_session.proofs.Coming.{IsToldAt, told-at, settled-still, keeps-told, has-no-page, is-cut, report-cut, turns-on, taken-shows, taken-report}
use Rattle.tx_session.proofs.Showing.{kept-rows, kept-fewer, kept-small, shows-still, report-still, work-still, can-be, one-length}
use Rattle.tx_session.proofs.Standings.{small-tells}
use Rattle.tx_session.proofs.cutting.make.Goals as goal

-- everything stands
pub returns-then-stands-clause-come : goal.returns-then-stands-clause-come
returns-then-stands-clause-come g c base led = record {
  shows = shows-still led.shows c.args.changes.now led.fits led.led (sym c.if-stands.ensures);
  report_is = c.report_of.ensures ∙ (λ i. report_of (length (c.as_slice-pages.ensures.value i)) (length (c.as_slice-pages.ensures.value i)) 0)
      ∙ report-still led.shows c.args.changes.now led.fits led.led (sym c.if-stands.ensures);
  lets_go = settled-still led (sym c.if-stands.ensures);
}

pub returns-then-stands-clause-counted : goal.returns-then-stands-clause-counted
returns-then-stands-clause-counted g c base led =
    sym (raised-zero c.args.steps.now) ∙ ap (raised c.args.steps.now) (sym (work-still led.shows c.args.changes.now led.fits led.led (sym c.if-stands.ensures)))

-- formatting resumes
pub overflow_cast-kept : goal.overflow_cast-kept
overflow_cast-kept g c =
    let small : c.resume_at-kept.result < 2 ^ 32 = subst (λ n. n < 2 ^ 32) (sym c.resume_at-kept.ensures) (kept-small c.requires.1.shows c.args.changes.now) in
    omega arith

pub make_beside-requires-clause-lengths : goal.make_beside-requires-clause-lengths
make_beside-requires-clause-lengths g c = one-length c.requires.1.shows c.args.changes.now c.requires.1.fits c.requires.1.led

pub make_beside-requires-clause-within : goal.make_beside-requires-clause-within
make_beside-requires-clause-within g c = subst (λ n. n ≤ length c.args.made.now.rows.rows.items) (sym c.resume_at-kept.ensures) (kept-rows c.requires.1.shows c.args.changes.now)

pub make_beside-requires-clause-fewer : goal.make_beside-requires-clause-fewer
make_beside-requires-clause-fewer g c = subst (λ n. n ≤ c.args.limits.now.pages) (sym c.resume_at-kept.ensures) (kept-fewer c.requires.1.shows c.args.changes.now)

pub make_beside-requires-clause-can : goal.make_beside-requires-clause-can
make_beside-requires-clause-can g c =
    let led = c.requires.1 in
    subst (λ n. IfSome (meeting_behind g.M.Machine.formatter c.args.files.now c.args.changes.now (rows_meant g.M.Machine.meaning c.args.made.now.rows.rows.items) c.args.made.now.rows.last n c.args.main.now c.args.date.now c.args.limits.now) (λ (meeting : Meeting). CanReuse c.args.changes.now meeting.old c.args.made.now.rows.rows.items c.args.made.now.rows.last))
    (sym c.resume_at-kept.ensures) (can-be led.shows c.args.changes.now led.fits led.led (small-tells c.requires.0 c.args.changes.now led.small))

pub returns-in_err-beside-clause-bound : goal.returns-in_err-beside-clause-bound
returns-in_err-beside-clause-bound g c base led =
    subst (λ turns. c.make_beside.new.steps ≤ raised c.args.steps.now turns) (turns-on led g.met.M.Machine.lawful (sym c.if-stands.ensures) c.resume_at-kept.ensures)
    (c.make_beside.ensures.bound (rows_of g.M.Machine.formatter (held_of base c.args.main.now c.args.date.now c.args.limits.now)) led.shows.rows)

-- the run on the changed files is kept beside
pub cut_of-cut-requires : goal.cut_of-cut-requires
cut_of-cut-requires g c =
    let led = c.requires.1 in
    has-no-page led g.met.M.Machine.lawful (told-at led c.resume_at-kept.ensures (record { is = c.in_ok-beside.ensures.later (rows_of g.M.Machine.formatter (held_of c.requires.0 c.args.main.now c.args.date.now c.args.limits.now)) led.shows.rows; count = c.in_ok-beside.ensures.count; alone = c.in_ok-beside.ensures.alone }))
    (sym c.if-is_kept.ensures)

pub returns-then-is_kept-clause-come : goal.returns-then-is_kept-clause-come
returns-then-is_kept-clause-come g c base led =
    let lawful = g.met.M.Machine.lawful in
    let row = c.resume_at-kept.ensures in
    let later = c.in_ok-beside.beside.later in
    let old = c.args.made.now in
    let told : IsToldAt led later (resume old.rows.rows.items c.args.changes.now) = told-at led row (record { is = c.in_ok-beside.ensures.later (rows_of g.M.Machine.formatter (held_of base c.args.main.now c.args.date.now c.args.limits.now)) led.shows.rows; count = c.in_ok-beside.ensures.count; alone = c.in_ok-beside.ensures.alone }) in
    let so = sym c.if-is_kept.ensures in
    let kept_is = c.cut_of-cut.ensures.kept ∙ row in
    let last_is = c.cut_of-cut.ensures.last c.args.changes.now old.rows.last in
    let said_is = c.cut_of-cut.ensures.said ∙ c.in_ok-beside.ensures.said ∙ ap (λ n. joined_with (pieces_after old.rows n later) (last_piece old.rows.last.piece later.further)) row in
    record {
      same = refl;
      cut_is = is-cut led lawful told so kept_is c.cut_of-cut.ensures.part last_is said_is;
      report_is = c.report_of-report.ensures
          ∙ (λ i. report_of (sym c.cut_of-cut.ensures.kept i + length (c.as_slice.ensures.value i)) (row i) 0)
          ∙ report-cut led lawful told so kept_is c.cut_of-cut.ensures.part last_is said_is (sym c.if-stands.ensures);
      keeps_it = sym (keeps-told led lawful told) ∙ so;
    }

pub returns-then-is_kept-clause-counted : goal.returns-then-is_kept-clause-counted
returns-then-is_kept-clause-counted g c base led =
    c.in_ok-beside.ensures.counted (rows_of g.M.Machine.formatter (held_of base c.args.main.now c.args.date.now c.args.limits.now)) led.shows.rows
    ∙ ap (raised c.args.steps.now) (turns-on led g.met.M.Machine.lawful (sym c.if-stands.ensures) c.resume_at-kept.ensures)

pub returns-then-is_kept-clause-bound : goal.returns-then-is_kept-clause-bound
returns-then-is_kept-clause-bound g c base led =
    subst (λ turns. c.make_beside.new.steps ≤ raised c.args.steps.now turns) (turns-on led g.met.M.Machine.lawful (sym c.if-stands.ensures) c.resume_at-kept.ensures)
    (c.make_beside.ensures.bound (rows_of g.M.Machine.formatter (held_of base c.args.main.now c.args.date.now c.args.limits.now)) led.shows.rows)

-- or it is taken over
pub returns-in_err-take_over-clause-bound : goal.returns-in_err-take_over-clause-bound
returns-in_err-take_over-clause-bound g c base led =
    subst (λ turns. c.make_beside.new.steps ≤ raised c.args.steps.now turns) (turns-on led g.met.M.Machine.lawful (sym c.if-stands.ensures) c.resume_at-kept.ensures)
    (c.make_beside.ensures.bound (rows_of g.M.Machine.formatter (held_of base c.args.main.now c.args.date.now c.args.limits.now)) led.shows.rows)

pub returns-clause-come : goal.returns-clause-come
returns-clause-come g c base led =
    let lawful = g.met.M.Machine.lawful in
    let row = c.resume_at-kept.ensures in
    let later = c.in_ok-beside.beside.later in
    let old = c.args.made.now in
    let new = c.take_over.new.made in
    let told : IsToldAt led later (resume old.rows.rows.items c.args.changes.now) = told-at led row (record { is = c.in_ok-beside.ensures.later (rows_of g.M.Machine.formatter (held_of base c.args.main.now c.args.date.now c.args.limits.now)) led.shows.rows; count = c.in_ok-beside.ensures.count; alone = c.in_ok-beside.ensures.alone }) in
    let are = subst (λ n. AreReused c.args.changes.now old.rows n later new.rows) row c.in_ok-take_over.ensures.rows in
    let said = c.in_ok-take_over.ensures.said ∙ c.in_ok-beside.ensures.said ∙ ap (λ n. joined_with (pieces_after old.rows n later) (last_piece old.rows.last.piece later.further)) row in
    record {
      shows = taken-shows led lawful told c.in_ok-beside.ensures.idle are said;
      report_is = c.report_of-2.ensures ∙ (λ i. report_of (length (c.as_slice-pages-2.ensures.value i)) (row i) later.count)
          ∙ taken-report led lawful told c.in_ok-beside.ensures.idle are said (sym c.if-stands.ensures);
      lets_go = sym (keeps-told led lawful told) ∙ sym c.if-is_kept.ensures;
    }

pub returns-clause-counted : goal.returns-clause-counted
returns-clause-counted g c base led =
    c.in_ok-beside.ensures.counted (rows_of g.M.Machine.formatter (held_of base c.args.main.now c.args.date.now c.args.limits.now)) led.shows.rows
    ∙ ap (raised c.args.steps.now) (turns-on led g.met.M.Machine.lawful (sym c.if-stands.ensures) c.resume_at-kept.ensures)

pub returns-clause-bound : goal.returns-clause-bound
returns-clause-bound g c base led =
    subst (λ turns. c.make_beside.new.steps ≤ raised c.args.steps.now turns) (turns-on led g.met.M.Machine.lawful (sym c.if-stands.ensures) c.resume_at-kept.ensures)
    (c.make_beside.ensures.bound (rows_of g.M.Machine.formatter (held_of base c.args.main.now c.args.date.now c.args.limits.now)) led.shows.rows)
