use Rattle.std.proofs.Common.{◌≡◌, ◌++◌, drop}
use Rattle.tx_convert.specs.Texts.{as_tokens}
use Rattle.tx_convert.proofs.texts.push_text.Given as goal

abbrev pub invariant-loop-code : goal.invariant-loop-code
invariant-loop-code l = l.tokens ++ as_tokens (drop l.code-index l.text) ≡ l.initial.tokens ++ as_tokens l.text
