use Rattle.std.proofs.Common.{◌≡◌, ◌+◌, ◌≤◌, drop}
use Rattle.tx_macro.specs.Arguments.{closes_last}
use Rattle.tx_macro.proofs.delimited.ends_at_last.Given as goal

abbrev pub invariant-loop-place : goal.invariant-loop-place
invariant-loop-place l = record {
  some : 1 ≤ l.depth;
  within : l.depth ≤ l.place + 1;
  left : closes_last 1 l.tokens ≡ closes_last l.depth (drop l.place l.tokens);
}
