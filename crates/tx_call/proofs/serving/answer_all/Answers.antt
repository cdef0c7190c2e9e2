use Rattle.std.proofs.Common.{◌≡◌, ◌∙◌, true, false, refl, arith, rules}
use Rattle.tx_call.specs.Answers.{begun_at}
use Rattle.tx_call.specs.Tally.{sitting}
use Rattle.tx_call.proofs.HeardSoFar.{heard-nothing, heard-more, heard-all, in-part, hears-one, hears-none, serves-short}
use Rattle.tx_call.proofs.serving.answer_all.Goals as goal

pub loop-at-init : goal.loop-at-init
loop-at-init g c = record {
  so_far = heard-nothing g.M.Machine.formatter (begun_at c.args.live.now) (g.I.Inlet.left c.args.inlet.now) (g.K.Sink.output c.args.sink.now) c.args.steps.now;
  edits = omega arith;
  places = omega arith;
  inlet_faults = refl;
  sink_faults = refl;
}

pub returns-in_err-more-clause-serves : goal.returns-in_err-more-clause-serves
returns-in_err-more-clause-serves g c =
    serves-short g.M.Machine.formatter c.from_residual.result c.in_err-more.field-0.0 c.args.live.now c.answer_next.new.live
    (sitting c.loop-at.live c.loop-at.tally) (sitting c.answer_next.new.live c.answer_next.new.tally)
    (g.I.Inlet.left c.args.inlet.now) (g.I.Inlet.left c.loop-at.inlet) (g.I.Inlet.left c.answer_next.new.inlet)
    (g.K.Sink.output c.args.sink.now) (g.K.Sink.output c.loop-at.sink) (g.K.Sink.output c.answer_next.new.sink) c.args.steps.now c.loop-at.steps c.answer_next.new.steps
    c.from_residual.ensures.1 c.loop-at.invariant.so_far c.in_err-more.ensures.hears

pub returns-then-not-more-clause-serves : goal.returns-then-not-more-clause-serves
returns-then-not-more-clause-serves g c =
    let over : c.in_ok-more.more ≡ false = search rules in
    heard-all g.M.Machine.formatter c.loop-at.invariant.so_far
    (hears-none g.M.Machine.formatter c.in_ok-more.more (g.I.Inlet.left c.loop-at.inlet) (g.I.Inlet.left c.answer_next.new.inlet) (sitting c.loop-at.live c.loop-at.tally) (sitting c.answer_next.new.live c.answer_next.new.tally)
    (g.K.Sink.output c.loop-at.sink) (g.K.Sink.output c.answer_next.new.sink) c.loop-at.steps c.answer_next.new.steps over c.in_ok-more.ensures.hears)

pub loop-at-preserved : goal.loop-at-preserved
loop-at-preserved g c =
    let more : c.in_ok-more.more ≡ true = search rules in
    record {
      so_far = heard-more g.M.Machine.formatter c.loop-at.invariant.so_far true (hears-one g.M.Machine.formatter c.in_ok-more.more more c.in_ok-more.ensures.hears);
      edits = omega (arith, c.in_ok-more.ensures.edits, c.loop-at.invariant.edits);
      places = omega (arith, c.in_ok-more.ensures.places, c.loop-at.invariant.places);
      inlet_faults = c.in_ok-more.ensures.causes.0 ∙ c.loop-at.invariant.inlet_faults;
      sink_faults = c.in_ok-more.ensures.causes.1 ∙ c.loop-at.invariant.sink_faults;
    }

pub returns-clause-serves : goal.returns-clause-serves
returns-clause-serves g c = in-part g.M.Machine.formatter c.loop-at.invariant.so_far
