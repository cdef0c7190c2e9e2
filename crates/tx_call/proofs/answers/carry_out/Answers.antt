use Rattle.std.proofs.Common.{◌≡◌, ◌+◌, ap, arith}
use Rattle.tx_call.specs.declared.tally.Tally.{Tally}
use Rattle.tx_call.specs.Answers.{most_changes}
use Rattle.tx_call.specs.Sitting.{Sitting, effect}
use Rattle.tx_call.specs.Tally.{sitting}
use Rattle.tx_call.proofs.Answering.{carried-out, carried-out-in-part, command-wanting}
use Rattle.tx_call.proofs.Stepping.{ok-so, went, wanted}
use Rattle.tx_call.proofs.answers.carry_out.Goals as goal

pub returns-in_err-step-clause-answers : goal.returns-in_err-step-clause-answers
returns-in_err-step-clause-answers g c = carried-out-in-part g.M.Machine.formatter c.from_residual.result c.args.command.now c.from_residual.ensures.0 c.in_err-step.ensures.goes

pub returns-in-Done-clause-answers : goal.returns-in-Done-clause-answers
returns-in-Done-clause-answers g c =
    carried-out g.M.Machine.formatter c.tell_saved.result c.args.command.now
    (went c.in_ok-step.field-0 (effect g.M.Machine.formatter most_changes (sitting c.args.live.now c.args.tally.now) c.args.command.now) (sitting c.args.live.now c.args.tally.now) (sitting c.step.new.document c.step.new.tally)
    (g.K.Sink.output c.args.sink.now) (g.K.Sink.output c.step.new.sink) c.args.steps.now c.step.new.steps c.in-Done.is c.in_ok-step.ensures.goes)
    c.tell_saved.ensures.puts

pub tell_wanting-requires : goal.tell_wanting-requires
tell_wanting-requires g c =
    let nothing = wanted c.in_ok-step.field-0 (effect g.M.Machine.formatter most_changes (sitting c.args.live.now c.args.tally.now) c.args.command.now) (sitting c.args.live.now c.args.tally.now) (sitting c.step.new.document c.step.new.tally)
    (g.K.Sink.output c.args.sink.now) (g.K.Sink.output c.step.new.sink) c.args.steps.now c.step.new.steps c.in-Wanting.is c.in_ok-step.ensures.goes in
    let same : c.step.new.tally.edits ≡ c.args.tally.now.edits = ap (λ (t : Sitting). t.edits) nothing.sitting_is in
    omega (arith, same, c.requires.room)

pub returns-in-Wanting-clause-answers : goal.returns-in-Wanting-clause-answers
returns-in-Wanting-clause-answers g c =
    let nothing = wanted c.in_ok-step.field-0 (effect g.M.Machine.formatter most_changes (sitting c.args.live.now c.args.tally.now) c.args.command.now) (sitting c.args.live.now c.args.tally.now) (sitting c.step.new.document c.step.new.tally)
    (g.K.Sink.output c.args.sink.now) (g.K.Sink.output c.step.new.sink) c.args.steps.now c.step.new.steps c.in-Wanting.is c.in_ok-step.ensures.goes in
    command-wanting g.M.Machine.formatter c.tell_wanting.result c.args.command.now (c.in_ok-step.ensures.wanting c.in-Wanting.is) nothing (ap (sitting c.step.new.document) c.tell_wanting.ensures.counted) c.tell_wanting.ensures.puts

pub returns-in-Wanting-clause-edits : goal.returns-in-Wanting-clause-edits
returns-in-Wanting-clause-edits g c =
    let nothing = wanted c.in_ok-step.field-0 (effect g.M.Machine.formatter most_changes (sitting c.args.live.now c.args.tally.now) c.args.command.now) (sitting c.args.live.now c.args.tally.now) (sitting c.step.new.document c.step.new.tally)
    (g.K.Sink.output c.args.sink.now) (g.K.Sink.output c.step.new.sink) c.args.steps.now c.step.new.steps c.in-Wanting.is c.in_ok-step.ensures.goes in
    let same : c.step.new.tally.edits ≡ c.args.tally.now.edits = ap (λ (t : Sitting). t.edits) nothing.sitting_is in
    let more : c.tell_wanting.new.tally.edits ≡ c.step.new.tally.edits + 1 = ap (λ (tally : Tally). tally.edits) c.tell_wanting.ensures.counted in
    ok-so c.tell_wanting.result (omega (arith, same, more))

pub returns-in-Wanting-clause-places : goal.returns-in-Wanting-clause-places
returns-in-Wanting-clause-places g c =
    let same : c.tell_wanting.new.tally.places ≡ c.step.new.tally.places = ap (λ (tally : Tally). tally.places) c.tell_wanting.ensures.counted in
    ok-so c.tell_wanting.result (omega (arith, same, c.in_ok-step.ensures.places))
