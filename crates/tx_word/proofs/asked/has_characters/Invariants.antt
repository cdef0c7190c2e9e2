use Rattle.std.proofs.Common.{◌≡◌, true, take}
use Rattle.std.specs.List.{All}
use Rattle.tx_tfm.specs.Fonts.{has_character}
use Rattle.tx_word.proofs.asked.has_characters.Given as goal

abbrev pub invariant-loop-code : goal.invariant-loop-code
invariant-loop-code l = All (λ code. has_character l.fonts l.font code ≡ true) (take l.code-index l.chars)
