use Rattle.std.proofs.Common.{◌≡◌, ℤ, take, drop}
use Rattle.std.specs.Prelude.{reverse}
use Rattle.tx_cond.specs.Conditionals.{decide, within_all}
use Rattle.tx_cond.proofs.stack.innermost_test.Given as goal

abbrev pub invariant-loop-place : goal.invariant-loop-place
invariant-loop-place l = (branch : ℤ) → decide branch (reverse l.conditionals) ≡ within_all (take l.place (reverse l.conditionals)) (decide branch (drop l.place (reverse l.conditionals)))
