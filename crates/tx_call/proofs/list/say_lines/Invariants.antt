use Rattle.std.proofs.Common.{◌≡◌, take}
use Rattle.tx_io.specs.Output.{told}
use Rattle.tx_call.specs.Listing.{said_lines}
use Rattle.tx_call.proofs.list.say_lines.Given as goal

abbrev pub invariant-loop-line : goal.invariant-loop-line
invariant-loop-line g l = record {
  so_far : g.K.Sink.output l.sink ≡ told (g.K.Sink.output l.initial.sink) (said_lines (take l.line-index l.lines));
  faults : g.K.Sink.faults l.sink ≡ g.K.Sink.faults l.initial.sink;
}
