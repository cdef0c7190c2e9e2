use Rattle.std.proofs.Common.{◌≡◌, ◌++◌, drop}
use Rattle.tx_convert.specs.Messages.{printed}
use Rattle.tx_convert.proofs.messages.text_of.Given as goal

abbrev pub invariant-loop-token : goal.invariant-loop-token
invariant-loop-token l = l.text ++ printed l.escape l.codes l.fonts (drop l.token-index l.tokens) ≡ printed l.escape l.codes l.fonts l.tokens
