use Rattle.std.proofs.Common.{inl, refl}
use Rattle.tx_call.specs.Tally.{sitting}
use Rattle.tx_call.proofs.OneHeard.{over-ends, request-heard, refusal-heard, request-cut, refusal-cut}
use Rattle.tx_call.proofs.serving.answer_next.Goals as goal

pub returns-in_err-answer-in-Asks-clause-hears : goal.returns-in_err-answer-in-Asks-clause-hears
returns-in_err-answer-in-Asks-clause-hears g c =
    request-cut g.M.Machine.formatter c.from_residual.result c.in-Asks.request c.in_err-answer-in-Asks.field-0.0 (g.I.Inlet.left c.args.inlet.now) (g.I.Inlet.left c.next_request.new.inlet)
    c.from_residual.ensures.1 c.in-Asks.ensures.next c.in_err-answer-in-Asks.ensures.answers

pub returns-in_ok-answer-in-Asks-clause-hears : goal.returns-in_ok-answer-in-Asks-clause-hears
returns-in_ok-answer-in-Asks-clause-hears g c = request-heard g.M.Machine.formatter c.in-Asks.request _ c.in-Asks.ensures.next c.in_ok-answer-in-Asks.ensures.answers

pub returns-in_err-refuse-in-Refused-clause-hears : goal.returns-in_err-refuse-in-Refused-clause-hears
returns-in_err-refuse-in-Refused-clause-hears g c =
    refusal-cut g.M.Machine.formatter c.from_residual-in_err-refuse-in-Refused.result c.in-Refused.rule c.in_err-refuse-in-Refused.field-0.0 (g.I.Inlet.left c.args.inlet.now) (g.I.Inlet.left c.next_request.new.inlet) (sitting c.args.live.now c.args.tally.now)
    (g.K.Sink.output c.args.sink.now) (g.K.Sink.output c.refuse.new.sink) c.args.steps.now c.from_residual-in_err-refuse-in-Refused.ensures.1 c.in-Refused.ensures.next c.in_err-refuse-in-Refused.ensures.puts

pub returns-in_ok-refuse-in-Refused-clause-hears : goal.returns-in_ok-refuse-in-Refused-clause-hears
returns-in_ok-refuse-in-Refused-clause-hears g c =
    refusal-heard g.M.Machine.formatter c.in-Refused.rule (g.I.Inlet.left c.args.inlet.now) (g.I.Inlet.left c.next_request.new.inlet) (sitting c.args.live.now c.args.tally.now)
    (g.K.Sink.output c.args.sink.now) (g.K.Sink.output c.refuse.new.sink) c.args.steps.now c.in-Refused.ensures.next c.in_ok-refuse-in-Refused.ensures.puts

pub returns-in-Over-clause-hears : goal.returns-in-Over-clause-hears
returns-in-Over-clause-hears g c = record { over = over-ends (g.I.Inlet.left c.args.inlet.now) (g.I.Inlet.left c.next_request.new.inlet) c.in-Over.ensures.next; sitting_is = refl; silent = record { output_is = refl; steps_are = refl } }

pub returns-in-Failed-clause-hears : goal.returns-in-Failed-clause-hears
returns-in-Failed-clause-hears g c = (c.in-Failed.ensures.next, record { output_is = refl; steps_are = refl })

pub returns-in-OutOfMemory-clause-hears : goal.returns-in-OutOfMemory-clause-hears
returns-in-OutOfMemory-clause-hears g c = inl (record { output_is = refl; steps_are = refl })
