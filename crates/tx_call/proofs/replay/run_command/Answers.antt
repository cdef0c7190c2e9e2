use Rattle.std.proofs.Common.{◌≡◌, ap, arith}
use Rattle.tx_session.specs.Standing.{settled}
use Rattle.tx_call.specs.Sitting.{Sitting, effect}
use Rattle.tx_call.specs.Tally.{moment, sitting}
use Rattle.tx_call.proofs.Stepping.{went, wanted, script-moment, script-puts, script-takes, script-fully, script-cut, script-most, refused-puts, refused-most}
use Rattle.tx_call.proofs.replay.run_command.Goals as goal

pub returns-in_err-step-clause-puts : goal.returns-in_err-step-clause-puts
returns-in_err-step-clause-puts g c =
    script-cut g.M.Machine.formatter (moment c.args.session.now c.args.tally.now) c.args.command.now (Unit {0}) c.args.out.now c.from_residual.result c.in_err-step.field-0.0 c.from_residual.ensures.1 c.in_err-step.ensures.goes

pub returns-in_err-step-clause-most : goal.returns-in_err-step-clause-most
returns-in_err-step-clause-most g c = script-most g.M.Machine.formatter (moment c.args.session.now c.args.tally.now) c.args.command.now c.in_err-step.ensures.goes

pub returns-in-Done-clause-moment : goal.returns-in-Done-clause-moment
returns-in-Done-clause-moment g c =
    script-moment g.M.Machine.formatter (moment c.args.session.now c.args.tally.now) c.args.command.now
    (went c.in_ok-step.field-0 (effect g.M.Machine.formatter 0 (sitting (settled c.args.session.now) c.args.tally.now) c.args.command.now) (sitting (settled c.args.session.now) c.args.tally.now) (sitting (settled c.step.new.document) c.step.new.tally)
    (g.K.Sink.output c.args.sink.now) (g.K.Sink.output c.step.new.sink) c.args.steps.now c.step.new.steps c.in-Done.is c.in_ok-step.ensures.goes)

pub returns-in-Done-clause-puts : goal.returns-in-Done-clause-puts
returns-in-Done-clause-puts g c =
    script-puts g.M.Machine.formatter (moment c.args.session.now c.args.tally.now) c.args.command.now
    (went c.in_ok-step.field-0 (effect g.M.Machine.formatter 0 (sitting (settled c.args.session.now) c.args.tally.now) c.args.command.now) (sitting (settled c.args.session.now) c.args.tally.now) (sitting (settled c.step.new.document) c.step.new.tally)
    (g.K.Sink.output c.args.sink.now) (g.K.Sink.output c.step.new.sink) c.args.steps.now c.step.new.steps c.in-Done.is c.in_ok-step.ensures.goes)

pub returns-in-Done-clause-counted : goal.returns-in-Done-clause-counted
returns-in-Done-clause-counted g c =
    script-takes g.M.Machine.formatter (moment c.args.session.now c.args.tally.now) c.args.command.now
    (went c.in_ok-step.field-0 (effect g.M.Machine.formatter 0 (sitting (settled c.args.session.now) c.args.tally.now) c.args.command.now) (sitting (settled c.args.session.now) c.args.tally.now) (sitting (settled c.step.new.document) c.step.new.tally)
    (g.K.Sink.output c.args.sink.now) (g.K.Sink.output c.step.new.sink) c.args.steps.now c.step.new.steps c.in-Done.is c.in_ok-step.ensures.goes)

pub returns-in-Done-clause-most : goal.returns-in-Done-clause-most
returns-in-Done-clause-most g c =
    script-fully g.M.Machine.formatter (moment c.args.session.now c.args.tally.now) c.args.command.now
    (went c.in_ok-step.field-0 (effect g.M.Machine.formatter 0 (sitting (settled c.args.session.now) c.args.tally.now) c.args.command.now) (sitting (settled c.args.session.now) c.args.tally.now) (sitting (settled c.step.new.document) c.step.new.tally)
    (g.K.Sink.output c.args.sink.now) (g.K.Sink.output c.step.new.sink) c.args.steps.now c.step.new.steps c.in-Done.is c.in_ok-step.ensures.goes)

pub tell_refusal-told-requires : goal.tell_refusal-told-requires
tell_refusal-told-requires g c =
    let nothing = wanted c.in_ok-step.field-0 (effect g.M.Machine.formatter 0 (sitting (settled c.args.session.now) c.args.tally.now) c.args.command.now) (sitting (settled c.args.session.now) c.args.tally.now) (sitting (settled c.step.new.document) c.step.new.tally)
    (g.K.Sink.output c.args.sink.now) (g.K.Sink.output c.step.new.sink) c.args.steps.now c.step.new.steps c.in-Wanting.is c.in_ok-step.ensures.goes in
    let same : c.step.new.tally.edits ≡ c.args.tally.now.edits = ap (λ (t : Sitting). t.edits) nothing.sitting_is in
    omega (arith, same, c.requires.room)

pub returns-in-Wanting-clause-puts : goal.returns-in-Wanting-clause-puts
returns-in-Wanting-clause-puts g c =
    refused-puts g.M.Machine.formatter (moment c.args.session.now c.args.tally.now) c.args.command.now
    (wanted c.in_ok-step.field-0 (effect g.M.Machine.formatter 0 (sitting (settled c.args.session.now) c.args.tally.now) c.args.command.now) (sitting (settled c.args.session.now) c.args.tally.now) (sitting (settled c.step.new.document) c.step.new.tally)
    (g.K.Sink.output c.args.sink.now) (g.K.Sink.output c.step.new.sink) c.args.steps.now c.step.new.steps c.in-Wanting.is c.in_ok-step.ensures.goes)
    c.args.out.now c.tell_refusal-told.result (g.K.Sink.output c.tell_refusal-told.new.sink) c.tell_refusal-told.ensures.puts

pub returns-in-Wanting-clause-refused : goal.returns-in-Wanting-clause-refused
returns-in-Wanting-clause-refused g c = λ is. c.in_ok-step.ensures.wanting c.in-Wanting.is

pub returns-in-Wanting-clause-most : goal.returns-in-Wanting-clause-most
returns-in-Wanting-clause-most g c =
    refused-most g.M.Machine.formatter (moment c.args.session.now c.args.tally.now) c.args.command.now
    (wanted c.in_ok-step.field-0 (effect g.M.Machine.formatter 0 (sitting (settled c.args.session.now) c.args.tally.now) c.args.command.now) (sitting (settled c.args.session.now) c.args.tally.now) (sitting (settled c.step.new.document) c.step.new.tally)
    (g.K.Sink.output c.args.sink.now) (g.K.Sink.output c.step.new.sink) c.args.steps.now c.step.new.steps c.in-Wanting.is c.in_ok-step.ensures.goes)
