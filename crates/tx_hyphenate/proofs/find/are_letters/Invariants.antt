use Rattle.std.proofs.Common.{◌≡◌, drop}
use Rattle.tx_hyphenate.specs.Finding.{are_letters}
use Rattle.tx_hyphenate.proofs.find.are_letters.Given as goal

abbrev pub invariant-loop-code : goal.invariant-loop-code
invariant-loop-code l =
    are_letters l.lower (drop l.code-index l.codes) ≡ are_letters l.lower l.codes
