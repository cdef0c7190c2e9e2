use Rattle.std.proofs.Common.{◌≡◌, ◌-◌}
use Rattle.tx_request.proofs.Batches.{Going}
use Rattle.tx_request.proofs.read.changes.Given as goal

abbrev pub invariant-loop-at : goal.invariant-loop-at
invariant-loop-at g l = record {
  going : Going (l.count - l._at) l.count l.changes (g.I.Inlet.left l.initial.inlet) (g.I.Inlet.left l.inlet);
  counted : g.I.Inlet.faults l.inlet ≡ g.I.Inlet.faults l.initial.inlet;
}
