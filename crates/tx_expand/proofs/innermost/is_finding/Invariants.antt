use Rattle.std.proofs.Common.{◌≡◌, ◌≤◌, length, take}
use Rattle.std.specs.Prelude.{reverse}
use Rattle.tx_expand.specs.Turns.{is_finding}
use Rattle.tx_expand.proofs.innermost.is_finding.Given as goal

-- none of those behind this place reads one
abbrev pub invariant-loop-place : goal.invariant-loop-place
invariant-loop-place l = record {
  within : l.place ≤ length l.begun;
  rest : is_finding (reverse (take l.place l.begun)) ≡ is_finding (reverse l.begun);
}

abbrev pub decreases-loop-place : goal.decreases-loop-place
decreases-loop-place l = l.place
