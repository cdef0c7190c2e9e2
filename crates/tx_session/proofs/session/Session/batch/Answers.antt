use Rattle.std.proofs.Common.{◌≡◌, ◌≤◌, ◌<◌, ◌+◌, ◌*◌, ◌^◌, true, length, None, sym, ap, subst, ◌∙◌, arith}
use Rattle.std.specs.Prelude.{IfSome}
use Rattle.tx_files.specs.Changes.{all_fit, first_outside}
use Rattle.tx_machine.specs.Steps.{raised}
use Rattle.tx_machine.proofs.Going.{raised-zero}
use Rattle.tx_checkpoint.specs.Meant.{rows_meant}
use Rattle.tx_quiesce.specs.Further.{CanReuse}
use Rattle.tx_quiesce.specs.Later.{turns_behind}
use Rattle.tx_quiesce.specs.Meeting.{Meeting}
use Rattle.tx_quiesce.specs.Reuse.{meeting_behind, made_after, reused_rows}
use Rattle.tx_session.specs.Held.{Held, fresh, rows_of, changed_session}
use Rattle.tx_session.specs.Made.{Becomes}
use Rattle.tx_session.specs.Report.{report_of, report, work, turns_of_changes}
use Rattle.tx_session.specs.Refusals.{may_want, IsBatchAnswer}
use Rattle.tx_session.specs.declared.report.Report.{Report}
use Rattle.tx_session.proofs.Refusing.{batch-refused, fit-wants, made-turns}
use Rattle.tx_session.proofs.Showing.{raised-within, kept-rows, kept-fewer, kept-small, shows-still, report-still, work-still, shows-on, reused-told, reused-within, report-on, work-on, can-be, one-length, work-bound}
use Rattle.tx_session.proofs.session.Session.batch.Goals as goal

pub invariant_of-self-then-stands : goal.invariant_of-self-then-stands
invariant_of-self-then-stands g c =
    shows-still c.self.invariant c.args.changes.now c.in_ok-before.ensures.answer.0 c.in_ok-before.ensures.ok (sym c.if-stands.ensures)

pub returns-then-stands-clause-report : goal.returns-then-stands-clause-report
returns-then-stands-clause-report g c =
    c.report_of.ensures ∙ (λ i. report_of (length (c.as_slice-pages.ensures.value i)) (length (c.as_slice-pages.ensures.value i)) 0) ∙ report-still c.self.invariant c.args.changes.now c.in_ok-before.ensures.answer.0 c.in_ok-before.ensures.ok (sym c.if-stands.ensures) ∙ ap (λ (held : Held). report g.M.Machine.formatter held c.args.changes.now) c.self.view_is

pub returns-then-stands-clause-counted : goal.returns-then-stands-clause-counted
returns-then-stands-clause-counted g c =
    sym (raised-zero c.args.steps.now) ∙ ap (raised c.args.steps.now) (sym (work-still c.self.invariant c.args.changes.now c.in_ok-before.ensures.answer.0 c.in_ok-before.ensures.ok (sym c.if-stands.ensures)) ∙ ap (λ (held : Held). work g.M.Machine.formatter held c.args.changes.now) c.self.view_is)

pub overflow_cast-kept : goal.overflow_cast-kept
overflow_cast-kept g c =
    let small : c.resume_at-kept.result < 2 ^ 32 = subst (λ n. n < 2 ^ 32) (sym c.resume_at-kept.ensures) (kept-small c.self.invariant c.args.changes.now) in
    omega arith

pub make_after-requires-clause-lengths : goal.make_after-requires-clause-lengths
make_after-requires-clause-lengths g c = one-length c.self.invariant c.args.changes.now c.in_ok-before.ensures.answer.0 c.in_ok-before.ensures.ok

pub make_after-requires-clause-within : goal.make_after-requires-clause-within
make_after-requires-clause-within g c =
    subst (λ n. n ≤ length c.self.inside.made.rows.rows.items) (sym c.resume_at-kept.ensures) (kept-rows c.self.invariant c.args.changes.now)

pub make_after-requires-clause-fewer : goal.make_after-requires-clause-fewer
make_after-requires-clause-fewer g c =
    subst (λ n. n ≤ c.self.inside.limits.pages) (sym c.resume_at-kept.ensures) (kept-fewer c.self.invariant c.args.changes.now)

pub make_after-requires-clause-can : goal.make_after-requires-clause-can
make_after-requires-clause-can g c =
    subst (λ n. IfSome (meeting_behind g.M.Machine.formatter c.change_files.new.files c.args.changes.now (rows_meant g.M.Machine.meaning c.self.inside.made.rows.rows.items) c.self.inside.made.rows.last n c.self.inside.main c.self.inside.date c.self.inside.limits) (λ (meeting : Meeting). CanReuse c.args.changes.now meeting.old c.self.inside.made.rows.rows.items c.self.inside.made.rows.last))
    (sym c.resume_at-kept.ensures) (can-be c.self.invariant c.args.changes.now c.in_ok-before.ensures.answer.0 c.in_ok-before.ensures.ok c.in_ok-before.ensures.small)

pub report_of-requires-in-Ok : goal.report_of-requires-in-Ok
report_of-requires-in-Ok g c =
    let made = c.make_after.new.made in
    let kept = c.resume_at-kept.ensures in
    let shown = shows-on c.self.invariant c.args.changes.now c.in_ok-before.ensures.answer.0 c.in_ok-before.ensures.ok g.met.M.Machine.lawful made
    (subst (λ n. Becomes g.M.Machine.meaning c.self.inside.made.rows (made_after g.M.Machine.formatter c.change_files.new.files c.args.changes.now c.self.inside.main c.self.inside.date c.self.inside.limits n) made.rows) kept c.in-Ok.ensures.goes) c.in-Ok.ensures.idle c.in-Ok.ensures.said in
    let many = c.in-Ok.ensures.reused ∙ ap (λ n. reused_rows c.self.inside.limits.pages (length c.self.inside.made.rows.rows.items) n (meeting_behind g.M.Machine.formatter c.change_files.new.files c.args.changes.now (rows_meant g.M.Machine.meaning c.self.inside.made.rows.rows.items) c.self.inside.made.rows.last n c.self.inside.main c.self.inside.date c.self.inside.limits)) kept
    ∙ reused-told c.self.invariant c.args.changes.now c.in_ok-before.ensures.answer.0 c.in_ok-before.ensures.ok in
    let within = reused-within c.self.invariant c.args.changes.now c.in_ok-before.ensures.answer.0 c.in_ok-before.ensures.ok g.met.M.Machine.lawful made shown in
    let pages = ap length c.as_slice-pages-in-Ok.ensures.value in
    omega (arith, kept, many, within, pages)

pub invariant_of-self-in-Ok : goal.invariant_of-self-in-Ok
invariant_of-self-in-Ok g c =
    shows-on c.self.invariant c.args.changes.now c.in_ok-before.ensures.answer.0 c.in_ok-before.ensures.ok g.met.M.Machine.lawful c.make_after.new.made
    (subst (λ n. Becomes g.M.Machine.meaning c.self.inside.made.rows (made_after g.M.Machine.formatter c.change_files.new.files c.args.changes.now c.self.inside.main c.self.inside.date c.self.inside.limits n) c.make_after.new.made.rows) c.resume_at-kept.ensures c.in-Ok.ensures.goes) c.in-Ok.ensures.idle c.in-Ok.ensures.said

pub returns-in-Ok-clause-report : goal.returns-in-Ok-clause-report
returns-in-Ok-clause-report g c =
    let made = c.make_after.new.made in
    let kept = c.resume_at-kept.ensures in
    let shown = shows-on c.self.invariant c.args.changes.now c.in_ok-before.ensures.answer.0 c.in_ok-before.ensures.ok g.met.M.Machine.lawful made
    (subst (λ n. Becomes g.M.Machine.meaning c.self.inside.made.rows (made_after g.M.Machine.formatter c.change_files.new.files c.args.changes.now c.self.inside.main c.self.inside.date c.self.inside.limits n) made.rows) kept c.in-Ok.ensures.goes) c.in-Ok.ensures.idle c.in-Ok.ensures.said in
    let many = c.in-Ok.ensures.reused ∙ ap (λ n. reused_rows c.self.inside.limits.pages (length c.self.inside.made.rows.rows.items) n (meeting_behind g.M.Machine.formatter c.change_files.new.files c.args.changes.now (rows_meant g.M.Machine.meaning c.self.inside.made.rows.rows.items) c.self.inside.made.rows.last n c.self.inside.main c.self.inside.date c.self.inside.limits)) kept
    ∙ reused-told c.self.invariant c.args.changes.now c.in_ok-before.ensures.answer.0 c.in_ok-before.ensures.ok in
    c.report_of-in-Ok.ensures ∙ (λ i. report_of (length (c.as_slice-pages-in-Ok.ensures.value i)) (kept i) (many i))
    ∙ report-on c.self.invariant c.args.changes.now c.in_ok-before.ensures.answer.0 c.in_ok-before.ensures.ok (sym c.if-stands.ensures) made shown ∙ ap (λ (held : Held). report g.M.Machine.formatter held c.args.changes.now) c.self.view_is

pub returns-in-Ok-clause-counted : goal.returns-in-Ok-clause-counted
returns-in-Ok-clause-counted g c =
    let old = rows_of g.M.Machine.formatter (record { files = c.self.inside.files; main = c.self.inside.main; date = c.self.inside.date; limits = c.self.inside.limits }) in
    c.in-Ok.ensures.counted old c.self.invariant.rows
    ∙ ap (raised c.args.steps.now) (ap (λ n. turns_behind g.M.Machine.formatter c.change_files.new.files c.args.changes.now c.self.inside.main c.self.inside.date c.self.inside.limits n old) c.resume_at-kept.ensures
    ∙ sym (work-on c.self.invariant c.args.changes.now c.in_ok-before.ensures.answer.0 c.in_ok-before.ensures.ok g.met.M.Machine.lawful (sym c.if-stands.ensures)) ∙ ap (λ (held : Held). work g.M.Machine.formatter held c.args.changes.now) c.self.view_is)

pub returns-in-Ok-clause-most : goal.returns-in-Ok-clause-most
returns-in-Ok-clause-most g c =
    let old = rows_of g.M.Machine.formatter (record { files = c.self.inside.files; main = c.self.inside.main; date = c.self.inside.date; limits = c.self.inside.limits }) in
    subst (λ turns. c.make_after.new.steps ≤ raised c.args.steps.now turns)
    (ap (λ n. turns_behind g.M.Machine.formatter c.change_files.new.files c.args.changes.now c.self.inside.main c.self.inside.date c.self.inside.limits n old) c.resume_at-kept.ensures
    ∙ sym (work-on c.self.invariant c.args.changes.now c.in_ok-before.ensures.answer.0 c.in_ok-before.ensures.ok g.met.M.Machine.lawful (sym c.if-stands.ensures))
    ∙ made-turns g.M.Machine.formatter (record { files = c.self.inside.files; main = c.self.inside.main; date = c.self.inside.date; limits = c.self.inside.limits }) c.args.changes.now c.in_ok-before.ensures.answer.0
    ∙ ap (λ (held : Held). turns_of_changes g.M.Machine.formatter held c.args.changes.now) c.self.view_is)
    (c.make_after.ensures.bound old c.self.invariant.rows)

pub returns-in-Ok-clause-bound : goal.returns-in-Ok-clause-bound
returns-in-Ok-clause-bound g c =
    let old = rows_of g.M.Machine.formatter (record { files = c.self.inside.files; main = c.self.inside.main; date = c.self.inside.date; limits = c.self.inside.limits }) in
    subst (λ (held : Held). c.make_after.new.steps ≤ c.args.steps.now + (length (fresh g.M.Machine.formatter (changed_session held c.args.changes.now)).ran.pages + 1) * held.limits.budget) c.self.view_is
    (raised-within c.args.steps.now _ _ _ (subst (λ turns. c.make_after.new.steps ≤ raised c.args.steps.now turns)
    (ap (λ n. turns_behind g.M.Machine.formatter c.change_files.new.files c.args.changes.now c.self.inside.main c.self.inside.date c.self.inside.limits n old) c.resume_at-kept.ensures
    ∙ sym (work-on c.self.invariant c.args.changes.now c.in_ok-before.ensures.answer.0 c.in_ok-before.ensures.ok g.met.M.Machine.lawful (sym c.if-stands.ensures)))
    (c.make_after.ensures.bound old c.self.invariant.rows))
    (work-bound c.self.invariant c.args.changes.now c.in_ok-before.ensures.answer.0 c.in_ok-before.ensures.ok g.met.M.Machine.lawful))

pub returns-in-Err-clause-most : goal.returns-in-Err-clause-most
returns-in-Err-clause-most g c =
    let old = rows_of g.M.Machine.formatter (record { files = c.self.inside.files; main = c.self.inside.main; date = c.self.inside.date; limits = c.self.inside.limits }) in
    subst (λ turns. c.make_after.new.steps ≤ raised c.args.steps.now turns)
    (ap (λ n. turns_behind g.M.Machine.formatter c.change_files.new.files c.args.changes.now c.self.inside.main c.self.inside.date c.self.inside.limits n old) c.resume_at-kept.ensures
    ∙ sym (work-on c.self.invariant c.args.changes.now c.in_ok-before.ensures.answer.0 c.in_ok-before.ensures.ok g.met.M.Machine.lawful (sym c.if-stands.ensures))
    ∙ made-turns g.M.Machine.formatter (record { files = c.self.inside.files; main = c.self.inside.main; date = c.self.inside.date; limits = c.self.inside.limits }) c.args.changes.now c.in_ok-before.ensures.answer.0
    ∙ ap (λ (held : Held). turns_of_changes g.M.Machine.formatter held c.args.changes.now) c.self.view_is)
    (c.make_after.ensures.bound old c.self.invariant.rows)

pub returns-in-Err-clause-bound : goal.returns-in-Err-clause-bound
returns-in-Err-clause-bound g c =
    let old = rows_of g.M.Machine.formatter (record { files = c.self.inside.files; main = c.self.inside.main; date = c.self.inside.date; limits = c.self.inside.limits }) in
    subst (λ (held : Held). c.make_after.new.steps ≤ c.args.steps.now + (length (fresh g.M.Machine.formatter (changed_session held c.args.changes.now)).ran.pages + 1) * held.limits.budget) c.self.view_is
    (raised-within c.args.steps.now _ _ _ (subst (λ turns. c.make_after.new.steps ≤ raised c.args.steps.now turns)
    (ap (λ n. turns_behind g.M.Machine.formatter c.change_files.new.files c.args.changes.now c.self.inside.main c.self.inside.date c.self.inside.limits n old) c.resume_at-kept.ensures
    ∙ sym (work-on c.self.invariant c.args.changes.now c.in_ok-before.ensures.answer.0 c.in_ok-before.ensures.ok g.met.M.Machine.lawful (sym c.if-stands.ensures)))
    (c.make_after.ensures.bound old c.self.invariant.rows))
    (work-bound c.self.invariant c.args.changes.now c.in_ok-before.ensures.answer.0 c.in_ok-before.ensures.ok g.met.M.Machine.lawful))

pub returns-in_err-before-clause-answer : goal.returns-in_err-before-clause-answer
returns-in_err-before-clause-answer g c =
    subst (λ (held : Held). IsBatchAnswer {T = Report} held.files c.args.changes.now c.from_residual.result) c.self.view_is
    (batch-refused c.self.inside.files c.args.changes.now c.from_residual.result c.in_err-before.field-0.0 c.from_residual.ensures.1 c.in_err-before.ensures.answer)

pub returns-then-stands-clause-answer : goal.returns-then-stands-clause-answer
returns-then-stands-clause-answer g c =
    subst (λ (held : Held). (all_fit held.files c.args.changes.now ≡ true) × (first_outside held.files c.args.changes.now ≡ None)) c.self.view_is c.in_ok-before.ensures.answer

pub returns-in-Ok-clause-answer : goal.returns-in-Ok-clause-answer
returns-in-Ok-clause-answer g c =
    subst (λ (held : Held). (all_fit held.files c.args.changes.now ≡ true) × (first_outside held.files c.args.changes.now ≡ None)) c.self.view_is c.in_ok-before.ensures.answer

pub returns-in-Err-clause-answer : goal.returns-in-Err-clause-answer
returns-in-Err-clause-answer g c =
    subst (λ (held : Held). may_want held.files c.args.changes.now ≡ true) c.self.view_is (fit-wants c.self.inside.files c.args.changes.now c.in_ok-before.ensures.answer.0)
