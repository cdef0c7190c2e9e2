use Rattle.std.proofs.Common.{◌≡◌}
use Rattle.tx_call.specs.Replay.{opened}
use Rattle.tx_call.specs.Tally.{moment}
use Rattle.tx_call.proofs.Replayed.{Replayed}
use Rattle.tx_call.proofs.replay.replay.Given as goal

abbrev pub invariant-loop-command : goal.invariant-loop-command
invariant-loop-command g l = record {
  so_far : Replayed g.M.Machine.formatter (opened l.initial.session) (moment l.session l.tally) l.commands l.command-index (g.K.Sink.output l.initial.sink) (g.K.Sink.output l.sink) l.initial.steps l.steps;
  faults : g.K.Sink.faults l.sink ≡ g.K.Sink.faults l.initial.sink;
}
