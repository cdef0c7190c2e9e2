use Rattle.std.proofs.Common.{◌≡◌, ◌↔◌, length}
use Rattle.tx_pending.specs.Sources.{IsSettled, ahead, stack_elements}
use Rattle.tx_pending.proofs.same.same_elements.Given as goal

abbrev pub invariant-loop-here : goal.invariant-loop-here
invariant-loop-here l = record {
  here : IsSettled l.one l.here;
  there : IsSettled l.other l.there;
  same : (stack_elements l.one ≡ stack_elements l.other) ↔ (ahead l.one l.here ≡ ahead l.other l.there);
}

abbrev pub decreases-loop-here : goal.decreases-loop-here
decreases-loop-here l = length (ahead l.one l.here)
