use Rattle.std.proofs.Common.{◌≡◌, ◌+◌, ap, arith, ◌∙◌, false}
use Rattle.tx_differing.specs.Differing.{edit_to}
use Rattle.tx_session.specs.Standing.{now}
use Rattle.tx_call.specs.declared.tally.Tally.{Tally}
use Rattle.tx_call.specs.Answers.{changes_of, most_changes}
use Rattle.tx_call.specs.Sitting.{Sitting, edit_effect}
use Rattle.tx_call.specs.Tally.{sitting}
use Rattle.tx_call.proofs.Answering.{contents-put, contents-put-in-part, contents-wanting, edit-wanting}
use Rattle.tx_call.proofs.Stepping.{ok-so, went, wanted}
use Rattle.tx_call.proofs.answers.put_contents.Goals as goal

pub returns-in_default-clause-answers : goal.returns-in_default-clause-answers
returns-in_default-clause-answers g c =
    edit-wanting g.M.Machine.formatter c.tell_wanting.result c.args.file.now c.args.steps.now (ap (sitting c.args.live.now) c.tell_wanting.ensures.counted) c.tell_wanting.ensures.puts

pub returns-in_err-put_edit-clause-answers : goal.returns-in_err-put_edit-clause-answers
returns-in_err-put_edit-clause-answers g c =
    contents-put-in-part g.M.Machine.formatter c.from_residual.result c.args.file.now c.in-Ok.edit c.from_residual.ensures.0
    (c.in-Ok.ensures.edit ∙ ap (edit_to (now c.args.live.now).files c.args.file.now.name) c.as_slice.ensures) c.in_err-put_edit.ensures.goes

pub returns-in-Done-clause-answers : goal.returns-in-Done-clause-answers
returns-in-Done-clause-answers g c =
    contents-put g.M.Machine.formatter _ c.args.file.now c.in-Ok.edit (c.in-Ok.ensures.edit ∙ ap (edit_to (now c.args.live.now).files c.args.file.now.name) c.as_slice.ensures)
    (went c.in_ok-put_edit.field-0 (edit_effect g.M.Machine.formatter most_changes (sitting c.args.live.now c.args.tally.now) false (changes_of c.in-Ok.edit)) (sitting c.args.live.now c.args.tally.now) (sitting c.put_edit.new.live c.put_edit.new.tally)
    (g.K.Sink.output c.args.sink.now) (g.K.Sink.output c.put_edit.new.sink) c.args.steps.now c.put_edit.new.steps c.in-Done.is c.in_ok-put_edit.ensures.goes)

pub tell_wanting-requires-in-Wanting : goal.tell_wanting-requires-in-Wanting
tell_wanting-requires-in-Wanting g c =
    let nothing = wanted c.in_ok-put_edit.field-0 (edit_effect g.M.Machine.formatter most_changes (sitting c.args.live.now c.args.tally.now) false (changes_of c.in-Ok.edit)) (sitting c.args.live.now c.args.tally.now)
    (sitting c.put_edit.new.live c.put_edit.new.tally) (g.K.Sink.output c.args.sink.now) (g.K.Sink.output c.put_edit.new.sink) c.args.steps.now c.put_edit.new.steps c.in-Wanting.is c.in_ok-put_edit.ensures.goes in
    let same : c.put_edit.new.tally.edits ≡ c.args.tally.now.edits = ap (λ (t : Sitting). t.edits) nothing.sitting_is in
    omega (arith, same, c.requires)

pub returns-in-Wanting-clause-answers : goal.returns-in-Wanting-clause-answers
returns-in-Wanting-clause-answers g c =
    let nothing = wanted c.in_ok-put_edit.field-0 (edit_effect g.M.Machine.formatter most_changes (sitting c.args.live.now c.args.tally.now) false (changes_of c.in-Ok.edit)) (sitting c.args.live.now c.args.tally.now)
    (sitting c.put_edit.new.live c.put_edit.new.tally) (g.K.Sink.output c.args.sink.now) (g.K.Sink.output c.put_edit.new.sink) c.args.steps.now c.put_edit.new.steps c.in-Wanting.is c.in_ok-put_edit.ensures.goes in
    contents-wanting g.M.Machine.formatter c.tell_wanting-in-Wanting.result c.args.file.now c.in-Ok.edit (c.in-Ok.ensures.edit ∙ ap (edit_to (now c.args.live.now).files c.args.file.now.name) c.as_slice.ensures) nothing
    (ap (sitting c.put_edit.new.live) c.tell_wanting-in-Wanting.ensures.counted) c.tell_wanting-in-Wanting.ensures.puts

pub returns-in-Wanting-clause-edits : goal.returns-in-Wanting-clause-edits
returns-in-Wanting-clause-edits g c =
    let nothing = wanted c.in_ok-put_edit.field-0 (edit_effect g.M.Machine.formatter most_changes (sitting c.args.live.now c.args.tally.now) false (changes_of c.in-Ok.edit)) (sitting c.args.live.now c.args.tally.now)
    (sitting c.put_edit.new.live c.put_edit.new.tally) (g.K.Sink.output c.args.sink.now) (g.K.Sink.output c.put_edit.new.sink) c.args.steps.now c.put_edit.new.steps c.in-Wanting.is c.in_ok-put_edit.ensures.goes in
    let same : c.put_edit.new.tally.edits ≡ c.args.tally.now.edits = ap (λ (t : Sitting). t.edits) nothing.sitting_is in
    let more : c.tell_wanting-in-Wanting.new.tally.edits ≡ c.put_edit.new.tally.edits + 1 = ap (λ (tally : Tally). tally.edits) c.tell_wanting-in-Wanting.ensures.counted in
    ok-so c.tell_wanting-in-Wanting.result (omega (arith, same, more))

pub returns-in-Wanting-clause-places : goal.returns-in-Wanting-clause-places
returns-in-Wanting-clause-places g c =
    let same : c.tell_wanting-in-Wanting.new.tally.places ≡ c.put_edit.new.tally.places = ap (λ (tally : Tally). tally.places) c.tell_wanting-in-Wanting.ensures.counted in
    ok-so c.tell_wanting-in-Wanting.result (omega (arith, same, c.in_ok-put_edit.ensures.places))
