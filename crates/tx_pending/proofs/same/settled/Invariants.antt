use Rattle.std.proofs.Common.{◌≡◌}
use Rattle.tx_pending.specs.Sources.{IsPosition, ahead}
use Rattle.tx_pending.proofs.same.settled.Given as goal

abbrev pub invariant-loop-at : goal.invariant-loop-at
invariant-loop-at l = record {
  inside : IsPosition l.stack l.at;
  rest : ahead l.stack l.at ≡ ahead l.stack l.fn.place;
}

abbrev pub decreases-loop-at : goal.decreases-loop-at
decreases-loop-at l = l.at.sources
