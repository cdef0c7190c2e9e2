use Rattle.std.proofs.Common.{◌≡◌, ◌++◌, replicate}
use Rattle.tx_convert.specs.Texts.{as_tokens}
use Rattle.tx_convert.proofs.numerals.push_repeated.Given as goal

abbrev pub invariant-loop-left : goal.invariant-loop-left
invariant-loop-left l = l.tokens ++ as_tokens (replicate l.left l.code) ≡ l.initial.tokens ++ as_tokens (replicate l.count l.code)

abbrev pub decreases-loop-left : goal.decreases-loop-left
decreases-loop-left l = l.left
