use Rattle.std.proofs.Common.{arith, rules}
use Rattle.std.specs.Prelude.{reverse}
use Rattle.std.proofs.lemmas.List.{length-reverse}
use Rattle.tx_cond.proofs.Decided.{search-on}
use Rattle.tx_cond.proofs.stack.innermost_test.Goals as goal

pub loop-place-preserved : goal.loop-place-preserved
loop-place-preserved c = λ branch. search-on branch (reverse c.args.conditionals.now) c.loop-place.place (omega (arith, length-reverse c.args.conditionals.now)) (search rules) (c.loop-place.invariant branch)
