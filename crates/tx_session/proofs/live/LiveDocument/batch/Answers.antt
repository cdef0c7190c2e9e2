use Rattle.std.proofs.Common.{◌≡◌, ◌≤◌, true, Option, Some, sym, ap, subst, ◌∙◌}
use Rattle.tx_bytes.specs.Files.{Files}
use Rattle.tx_files.specs.TakenBack.{taken_back}
use Rattle.tx_machine.specs.Steps.{raised}
use Rattle.tx_session.specs.declared.kept.Come.{Come}
use Rattle.tx_session.specs.declared.kept.Earlier.{Earlier}
use Rattle.tx_session.specs.declared.kept.Made.{Made}
use Rattle.tx_session.specs.declared.refusal.Refusal.TheVariants.{OutOfMemory}
use Rattle.tx_session.specs.Cut.{base_of, standing_of, IsBeside, IsSettled, HasCome, ShowsLive}
use Rattle.tx_session.specs.Held.{Held, held_of, with_files}
use Rattle.tx_session.specs.Refusals.{may_want}
use Rattle.tx_session.specs.Standing.{Standing, now, made_of, report_since, work_since, turns_since}
use Rattle.tx_session.proofs.Living.{held-is, not-none, restored, restored-standing, shows-alone, shows-live-same, led-now, report-now, work-now, turns-now, settled-now, kept-now, kept-shows}
use Rattle.tx_session.proofs.Refusing.{batch-refused, fit-wants}
use Rattle.tx_session.proofs.Saying.{err-so}
use Rattle.tx_session.proofs.live.LiveDocument.batch.Goals as goal

pub make-requires : goal.make-requires
make-requires g c =
    let m = g.M.Machine.formatter in
    let inside = c.self.inside in
    let held : Held = held_of inside.files inside.main inside.date inside.limits in
    let files : Files = c.change_files.new.files in
    let after : Held = with_files held files in
    let base : Files = base_of inside.files inside.earlier in
    let changes = c.args.changes.now in
    let all = c.as_slice.result.now in
    let before = c.in_ok-before.ensures in
    let all_is = c.as_slice.ensures ∙ c.in-Ok.ensures in
    (base, led-now c.self.invariant files changes all before.answer.0 before.small before.ok all_is)

-- what was kept shows the run on the changed files
pub invariant_of-self-in-Ok-Settled : goal.invariant_of-self-in-Ok-Settled
invariant_of-self-in-Ok-Settled g c =
    let m = g.M.Machine.formatter in
    let inside = c.self.inside in
    let held : Held = held_of inside.files inside.main inside.date inside.limits in
    let files : Files = c.change_files.new.files in
    let after : Held = with_files held files in
    let base : Files = base_of inside.files inside.earlier in
    let changes = c.args.changes.now in
    let all = c.as_slice.result.now in
    let before = c.in_ok-before.ensures in
    let all_is = c.as_slice.ensures ∙ c.in-Ok.ensures in
    let led = led-now c.self.invariant files changes all before.answer.0 before.small before.ok all_is in
    let settled : IsSettled m g.M.Machine.meaning g.M.Machine.pending base after all c.make.new.made c.in-Ok-Settled.report =
    subst (λ (come : Come g.row.M-State.Denot). HasCome m g.M.Machine.meaning g.M.Machine.pending base after all inside.made c.make.new.made come) c.in-Ok-Settled.field-0-is (c.in-Ok-Settled.ensures.come base led) in
    subst (λ (earlier : Option (Earlier g.row.M-State.Denot)). ShowsLive m g.M.Machine.meaning g.M.Machine.pending after c.make.new.made earlier) (sym c.replace.ensures.after) (shows-alone settled.shows)

pub returns-in-Ok-Settled-clause-made : goal.returns-in-Ok-Settled-clause-made
returns-in-Ok-Settled-clause-made g c =
    let m = g.M.Machine.formatter in
    let inside = c.self.inside in
    let held : Held = held_of inside.files inside.main inside.date inside.limits in
    let files : Files = c.change_files.new.files in
    let after : Held = with_files held files in
    let base : Files = base_of inside.files inside.earlier in
    let changes = c.args.changes.now in
    let all = c.as_slice.result.now in
    let before = c.in_ok-before.ensures in
    let all_is = c.as_slice.ensures ∙ c.in-Ok.ensures in
    let some = not-none c.is_empty.ensures c.if-is_empty.false in
    let led = led-now c.self.invariant files changes all before.answer.0 before.small before.ok all_is in
    let settled : IsSettled m g.M.Machine.meaning g.M.Machine.pending base after all c.make.new.made c.in-Ok-Settled.report =
    subst (λ (come : Come g.row.M-State.Denot). HasCome m g.M.Machine.meaning g.M.Machine.pending base after all inside.made c.make.new.made come) c.in-Ok-Settled.field-0-is (c.in-Ok-Settled.ensures.come base led) in
    ap (λ (earlier : Option (Earlier g.row.M-State.Denot)). standing_of after earlier) c.replace.ensures.after ∙ settled-now c.self.invariant files changes all before.answer.0 before.small before.ok all_is some settled.lets_go
    ∙ ap (λ (t : Standing). made_of m 1000 t changes) c.self.view_is

pub returns-in-Ok-Settled-clause-report : goal.returns-in-Ok-Settled-clause-report
returns-in-Ok-Settled-clause-report g c =
    let m = g.M.Machine.formatter in
    let inside = c.self.inside in
    let held : Held = held_of inside.files inside.main inside.date inside.limits in
    let files : Files = c.change_files.new.files in
    let after : Held = with_files held files in
    let base : Files = base_of inside.files inside.earlier in
    let changes = c.args.changes.now in
    let all = c.as_slice.result.now in
    let before = c.in_ok-before.ensures in
    let all_is = c.as_slice.ensures ∙ c.in-Ok.ensures in
    let some = not-none c.is_empty.ensures c.if-is_empty.false in
    let led = led-now c.self.invariant files changes all before.answer.0 before.small before.ok all_is in
    let settled : IsSettled m g.M.Machine.meaning g.M.Machine.pending base after all c.make.new.made c.in-Ok-Settled.report =
    subst (λ (come : Come g.row.M-State.Denot). HasCome m g.M.Machine.meaning g.M.Machine.pending base after all inside.made c.make.new.made come) c.in-Ok-Settled.field-0-is (c.in-Ok-Settled.ensures.come base led) in
    settled.report_is ∙ report-now c.self.invariant files changes all before.answer.0 before.small before.ok all_is some ∙ ap (λ (t : Standing). report_since m t changes) c.self.view_is

pub returns-in-Ok-Settled-clause-counted : goal.returns-in-Ok-Settled-clause-counted
returns-in-Ok-Settled-clause-counted g c =
    let m = g.M.Machine.formatter in
    let inside = c.self.inside in
    let held : Held = held_of inside.files inside.main inside.date inside.limits in
    let files : Files = c.change_files.new.files in
    let after : Held = with_files held files in
    let base : Files = base_of inside.files inside.earlier in
    let changes = c.args.changes.now in
    let all = c.as_slice.result.now in
    let before = c.in_ok-before.ensures in
    let all_is = c.as_slice.ensures ∙ c.in-Ok.ensures in
    let some = not-none c.is_empty.ensures c.if-is_empty.false in
    let led = led-now c.self.invariant files changes all before.answer.0 before.small before.ok all_is in
    c.in-Ok-Settled.ensures.counted base led ∙ ap (raised c.args.steps.now) (work-now c.self.invariant files changes all before.answer.0 before.small before.ok all_is some ∙ ap (λ (t : Standing). work_since m t changes) c.self.view_is)

pub returns-in-Ok-Settled-clause-most : goal.returns-in-Ok-Settled-clause-most
returns-in-Ok-Settled-clause-most g c =
    let m = g.M.Machine.formatter in
    let inside = c.self.inside in
    let held : Held = held_of inside.files inside.main inside.date inside.limits in
    let files : Files = c.change_files.new.files in
    let after : Held = with_files held files in
    let base : Files = base_of inside.files inside.earlier in
    let changes = c.args.changes.now in
    let all = c.as_slice.result.now in
    let before = c.in_ok-before.ensures in
    let all_is = c.as_slice.ensures ∙ c.in-Ok.ensures in
    let some = not-none c.is_empty.ensures c.if-is_empty.false in
    let led = led-now c.self.invariant files changes all before.answer.0 before.small before.ok all_is in
    subst (λ turns. c.make.new.steps ≤ raised c.args.steps.now turns) (turns-now c.self.invariant files changes all before.answer.0 before.small before.ok all_is some ∙ ap (λ (t : Standing). turns_since m t changes) c.self.view_is) (c.make.ensures.bound base led)

-- or the one that was cut off is kept beside it
pub invariant_of-self-in-Ok-Beside : goal.invariant_of-self-in-Ok-Beside
invariant_of-self-in-Ok-Beside g c =
    let m = g.M.Machine.formatter in
    let inside = c.self.inside in
    let held : Held = held_of inside.files inside.main inside.date inside.limits in
    let files : Files = c.change_files.new.files in
    let after : Held = with_files held files in
    let base : Files = base_of inside.files inside.earlier in
    let changes = c.args.changes.now in
    let all = c.as_slice.result.now in
    let before = c.in_ok-before.ensures in
    let all_is = c.as_slice.ensures ∙ c.in-Ok.ensures in
    let some = not-none c.is_empty.ensures c.if-is_empty.false in
    let led = led-now c.self.invariant files changes all before.answer.0 before.small before.ok all_is in
    let beside : IsBeside m g.M.Machine.meaning base after all inside.made c.make.new.made c.in-Ok-Beside.report c.in-Ok-Beside.cut =
    subst (λ (come : Come g.row.M-State.Denot). HasCome m g.M.Machine.meaning g.M.Machine.pending base after all inside.made c.make.new.made come) c.in-Ok-Beside.field-0-is (c.in-Ok-Beside.ensures.come base led) in
    let kept = c.in_ok-keep-in-Ok-Beside.ensures in
    let e : Earlier g.row.M-State.Denot = record { files = base_of (taken_back files c.in_ok-before.before) inside.earlier; since = c.in-Ok.all; cut = c.in-Ok-Beside.cut } in
    let files_is : e.files ≡ base = ap (λ (f : Files). base_of f inside.earlier) before.back in
    let since_is : e.since ≡ all = sym c.as_slice.ensures in
    subst (λ (earlier : Option (Earlier g.row.M-State.Denot)). ShowsLive m g.M.Machine.meaning g.M.Machine.pending (with_files held c.keep.new.files) c.make.new.made earlier) (sym kept.kept)
    (subst (λ (f : Files). ShowsLive m g.M.Machine.meaning g.M.Machine.pending (with_files held f) c.make.new.made (Some e)) (sym kept.now)
    (kept-shows c.self.invariant files changes all before.answer.0 before.small before.ok all_is some e files_is since_is beside.keeps_it beside.same beside.cut_is))

pub returns-in_ok-keep-in-Ok-Beside-clause-made : goal.returns-in_ok-keep-in-Ok-Beside-clause-made
returns-in_ok-keep-in-Ok-Beside-clause-made g c =
    let m = g.M.Machine.formatter in
    let inside = c.self.inside in
    let held : Held = held_of inside.files inside.main inside.date inside.limits in
    let files : Files = c.change_files.new.files in
    let after : Held = with_files held files in
    let base : Files = base_of inside.files inside.earlier in
    let changes = c.args.changes.now in
    let all = c.as_slice.result.now in
    let before = c.in_ok-before.ensures in
    let all_is = c.as_slice.ensures ∙ c.in-Ok.ensures in
    let some = not-none c.is_empty.ensures c.if-is_empty.false in
    let led = led-now c.self.invariant files changes all before.answer.0 before.small before.ok all_is in
    let beside : IsBeside m g.M.Machine.meaning base after all inside.made c.make.new.made c.in-Ok-Beside.report c.in-Ok-Beside.cut =
    subst (λ (come : Come g.row.M-State.Denot). HasCome m g.M.Machine.meaning g.M.Machine.pending base after all inside.made c.make.new.made come) c.in-Ok-Beside.field-0-is (c.in-Ok-Beside.ensures.come base led) in
    let kept = c.in_ok-keep-in-Ok-Beside.ensures in
    let e : Earlier g.row.M-State.Denot = record { files = base_of (taken_back files c.in_ok-before.before) inside.earlier; since = c.in-Ok.all; cut = c.in-Ok-Beside.cut } in
    let files_is : e.files ≡ base = ap (λ (f : Files). base_of f inside.earlier) before.back in
    let since_is : e.since ≡ all = sym c.as_slice.ensures in
    (λ i. standing_of (with_files held (kept.now i)) (kept.kept i)) ∙ kept-now c.self.invariant files changes all before.answer.0 before.small before.ok all_is some e files_is since_is beside.keeps_it
    ∙ ap (λ (t : Standing). made_of m 1000 t changes) c.self.view_is

pub returns-in_ok-keep-in-Ok-Beside-clause-report : goal.returns-in_ok-keep-in-Ok-Beside-clause-report
returns-in_ok-keep-in-Ok-Beside-clause-report g c =
    let m = g.M.Machine.formatter in
    let inside = c.self.inside in
    let held : Held = held_of inside.files inside.main inside.date inside.limits in
    let files : Files = c.change_files.new.files in
    let after : Held = with_files held files in
    let base : Files = base_of inside.files inside.earlier in
    let changes = c.args.changes.now in
    let all = c.as_slice.result.now in
    let before = c.in_ok-before.ensures in
    let all_is = c.as_slice.ensures ∙ c.in-Ok.ensures in
    let some = not-none c.is_empty.ensures c.if-is_empty.false in
    let led = led-now c.self.invariant files changes all before.answer.0 before.small before.ok all_is in
    let beside : IsBeside m g.M.Machine.meaning base after all inside.made c.make.new.made c.in-Ok-Beside.report c.in-Ok-Beside.cut =
    subst (λ (come : Come g.row.M-State.Denot). HasCome m g.M.Machine.meaning g.M.Machine.pending base after all inside.made c.make.new.made come) c.in-Ok-Beside.field-0-is (c.in-Ok-Beside.ensures.come base led) in
    beside.report_is ∙ report-now c.self.invariant files changes all before.answer.0 before.small before.ok all_is some ∙ ap (λ (t : Standing). report_since m t changes) c.self.view_is

pub returns-in_ok-keep-in-Ok-Beside-clause-counted : goal.returns-in_ok-keep-in-Ok-Beside-clause-counted
returns-in_ok-keep-in-Ok-Beside-clause-counted g c =
    let m = g.M.Machine.formatter in
    let inside = c.self.inside in
    let held : Held = held_of inside.files inside.main inside.date inside.limits in
    let files : Files = c.change_files.new.files in
    let after : Held = with_files held files in
    let base : Files = base_of inside.files inside.earlier in
    let changes = c.args.changes.now in
    let all = c.as_slice.result.now in
    let before = c.in_ok-before.ensures in
    let all_is = c.as_slice.ensures ∙ c.in-Ok.ensures in
    let some = not-none c.is_empty.ensures c.if-is_empty.false in
    let led = led-now c.self.invariant files changes all before.answer.0 before.small before.ok all_is in
    c.in-Ok-Beside.ensures.counted base led ∙ ap (raised c.args.steps.now) (work-now c.self.invariant files changes all before.answer.0 before.small before.ok all_is some ∙ ap (λ (t : Standing). work_since m t changes) c.self.view_is)

pub returns-in_ok-keep-in-Ok-Beside-clause-most : goal.returns-in_ok-keep-in-Ok-Beside-clause-most
returns-in_ok-keep-in-Ok-Beside-clause-most g c =
    let m = g.M.Machine.formatter in
    let inside = c.self.inside in
    let held : Held = held_of inside.files inside.main inside.date inside.limits in
    let files : Files = c.change_files.new.files in
    let after : Held = with_files held files in
    let base : Files = base_of inside.files inside.earlier in
    let changes = c.args.changes.now in
    let all = c.as_slice.result.now in
    let before = c.in_ok-before.ensures in
    let all_is = c.as_slice.ensures ∙ c.in-Ok.ensures in
    let some = not-none c.is_empty.ensures c.if-is_empty.false in
    let led = led-now c.self.invariant files changes all before.answer.0 before.small before.ok all_is in
    subst (λ turns. c.make.new.steps ≤ raised c.args.steps.now turns) (turns-now c.self.invariant files changes all before.answer.0 before.small before.ok all_is some ∙ ap (λ (t : Standing). turns_since m t changes) c.self.view_is) (c.make.ensures.bound base led)

-- memory was wanting
pub invariant_of-self-in_err-keep-in-Ok-Beside : goal.invariant_of-self-in_err-keep-in-Ok-Beside
invariant_of-self-in_err-keep-in-Ok-Beside g c =
    let m = g.M.Machine.formatter in
    let inside = c.self.inside in
    let held : Held = held_of inside.files inside.main inside.date inside.limits in
    let files : Files = c.change_files.new.files in
    let after : Held = with_files held files in
    let base : Files = base_of inside.files inside.earlier in
    let changes = c.args.changes.now in
    let all = c.as_slice.result.now in
    let before = c.in_ok-before.ensures in
    let all_is = c.as_slice.ensures ∙ c.in-Ok.ensures in
    let led = led-now c.self.invariant files changes all before.answer.0 before.small before.ok all_is in
    let beside : IsBeside m g.M.Machine.meaning base after all inside.made c.make.new.made c.in-Ok-Beside.report c.in-Ok-Beside.cut =
    subst (λ (come : Come g.row.M-State.Denot). HasCome m g.M.Machine.meaning g.M.Machine.pending base after all inside.made c.make.new.made come) c.in-Ok-Beside.field-0-is (c.in-Ok-Beside.ensures.come base led) in
    let err = c.in_err-keep-in-Ok-Beside.ensures.err in
    let same : c.keep.new.files ≡ inside.files = err.0 ∙ before.back in
    subst (λ (earlier : Option (Earlier g.row.M-State.Denot)). ShowsLive m g.M.Machine.meaning g.M.Machine.pending (with_files held c.keep.new.files) c.make.new.made earlier) (sym err.1)
    (subst (λ (made : Made g.row.M-State.Denot). ShowsLive m g.M.Machine.meaning g.M.Machine.pending (with_files held c.keep.new.files) made inside.earlier) (sym beside.same) (restored c.self.invariant same))

pub returns-in_err-keep-in-Ok-Beside-clause-refused : goal.returns-in_err-keep-in-Ok-Beside-clause-refused
returns-in_err-keep-in-Ok-Beside-clause-refused g c =
    let inside = c.self.inside in
    let held : Held = held_of inside.files inside.main inside.date inside.limits in
    let err = c.in_err-keep-in-Ok-Beside.ensures.err in
    let same : c.keep.new.files ≡ inside.files = err.0 ∙ c.in_ok-before.ensures.back in
    err-so c.from_residual-in_err-keep-in-Ok-Beside.result
    (ap (λ (earlier : Option (Earlier g.row.M-State.Denot)). standing_of (with_files held c.keep.new.files) earlier) err.1 ∙ restored-standing c.self.invariant same ∙ c.self.view_is)

pub returns-in_err-keep-in-Ok-Beside-clause-most : goal.returns-in_err-keep-in-Ok-Beside-clause-most
returns-in_err-keep-in-Ok-Beside-clause-most g c =
    let m = g.M.Machine.formatter in
    let inside = c.self.inside in
    let held : Held = held_of inside.files inside.main inside.date inside.limits in
    let files : Files = c.change_files.new.files in
    let after : Held = with_files held files in
    let base : Files = base_of inside.files inside.earlier in
    let changes = c.args.changes.now in
    let all = c.as_slice.result.now in
    let before = c.in_ok-before.ensures in
    let all_is = c.as_slice.ensures ∙ c.in-Ok.ensures in
    let some = not-none c.is_empty.ensures c.if-is_empty.false in
    let led = led-now c.self.invariant files changes all before.answer.0 before.small before.ok all_is in
    subst (λ turns. c.make.new.steps ≤ raised c.args.steps.now turns) (turns-now c.self.invariant files changes all before.answer.0 before.small before.ok all_is some ∙ ap (λ (t : Standing). turns_since m t changes) c.self.view_is) (c.make.ensures.bound base led)

pub invariant_of-self-in-Err : goal.invariant_of-self-in-Err
invariant_of-self-in-Err g c =
    shows-live-same c.make.new.made (restored c.self.invariant (c.take_back-in-Err.ensures ∙ c.in_ok-before.ensures.back)) c.in-Err.ensures.same c.in-Err.ensures.unsaid

pub returns-in-Err-clause-most : goal.returns-in-Err-clause-most
returns-in-Err-clause-most g c =
    let m = g.M.Machine.formatter in
    let inside = c.self.inside in
    let held : Held = held_of inside.files inside.main inside.date inside.limits in
    let files : Files = c.change_files.new.files in
    let after : Held = with_files held files in
    let base : Files = base_of inside.files inside.earlier in
    let changes = c.args.changes.now in
    let all = c.as_slice.result.now in
    let before = c.in_ok-before.ensures in
    let all_is = c.as_slice.ensures ∙ c.in-Ok.ensures in
    let some = not-none c.is_empty.ensures c.if-is_empty.false in
    let led = led-now c.self.invariant files changes all before.answer.0 before.small before.ok all_is in
    subst (λ turns. c.make.new.steps ≤ raised c.args.steps.now turns) (turns-now c.self.invariant files changes all before.answer.0 before.small before.ok all_is some ∙ ap (λ (t : Standing). turns_since m t changes) c.self.view_is) (c.make.ensures.bound base led)

pub returns-in_err-keep-in-Ok-Beside-clause-answer : goal.returns-in_err-keep-in-Ok-Beside-clause-answer
returns-in_err-keep-in-Ok-Beside-clause-answer g c =
    let inside = c.self.inside in
    let held : Held = held_of inside.files inside.main inside.date inside.limits in
    let is : held ≡ now c.args.self.now = held-is c.self.invariant c.self.view_is in
    batch-refused (now c.args.self.now).files c.args.changes.now c.from_residual-in_err-keep-in-Ok-Beside.result OutOfMemory c.from_residual-in_err-keep-in-Ok-Beside.ensures.1
    (subst (λ (h : Held). may_want h.files c.args.changes.now ≡ true) is (fit-wants inside.files c.args.changes.now c.in_ok-before.ensures.answer.0))
