use Rattle.std.proofs.Common.{◌≡◌, ◌≤◌}
use Rattle.tx_call.specs.Answers.{begun_at}
use Rattle.tx_call.specs.Hearing.{Heard}
use Rattle.tx_call.specs.Tally.{sitting}
use Rattle.tx_call.proofs.serving.answer_all.Given as goal

abbrev pub invariant-loop-at : goal.invariant-loop-at
invariant-loop-at g l = record {
  so_far : Heard g.M.Machine.formatter (begun_at l.initial.live) (sitting l.live l.tally) (g.I.Inlet.left l.initial.inlet) (g.I.Inlet.left l.inlet) (g.K.Sink.output l.initial.sink) (g.K.Sink.output l.sink) l.initial.steps l.steps;
  edits : l.tally.edits ≤ l._at;
  places : l.tally.places ≤ l._at;
  inlet_faults : g.I.Inlet.faults l.inlet ≡ g.I.Inlet.faults l.initial.inlet;
  sink_faults : g.K.Sink.faults l.sink ≡ g.K.Sink.faults l.initial.sink;
}
