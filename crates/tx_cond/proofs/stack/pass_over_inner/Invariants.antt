use Rattle.std.proofs.Common.{◌≡◌, ◌≤◌, length, take, drop}
use Rattle.std.specs.Prelude.{reverse}
use Rattle.tx_cond.specs.Conditionals.{within_all}
use Rattle.tx_cond.proofs.stack.pass_over_inner.Given as goal

abbrev pub invariant-loop-inner : goal.invariant-loop-inner
invariant-loop-inner l = record {
  place : l.inner ≤ length (reverse l.conditionals);
  left : within_all (take l.inner (reverse l.conditionals)) (drop l.inner (reverse l.conditionals)) ≡ within_all (take l.fn.place (reverse l.fn.conditionals)) (drop l.fn.place (reverse l.fn.conditionals));
}

abbrev pub decreases-loop-inner : goal.decreases-loop-inner
decreases-loop-inner l = l.inner
