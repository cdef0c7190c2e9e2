use Rattle.std.proofs.Common.{◌≡◌, ◌++◌, drop}
use Rattle.tx_convert.specs.Meanings.{all_shown}
use Rattle.tx_convert.proofs.shown.put_all.Given as goal

abbrev pub invariant-loop-token : goal.invariant-loop-token
invariant-loop-token l = l.text ++ all_shown l.escape l.codes l.fonts (drop l.token-index l.tokens) ≡ l.initial.text ++ all_shown l.escape l.codes l.fonts l.tokens
