use Rattle.std.proofs.Common.{◌≡◌, true, drop, take}
use Rattle.std.specs.List.{All}
use Rattle.tx_tfm.specs.Fonts.{has_character}
use Rattle.tx_hyphenate.specs.Hyphenated.{are_there}
use Rattle.tx_hyphenate.proofs.run.are_there.Given as goal

abbrev pub invariant-loop-code : goal.invariant-loop-code
invariant-loop-code l =
    record {
      value : are_there l.fonts l.font (drop l.code-index l.codes) ≡ are_there l.fonts l.font l.codes;
      all : All (λ code. has_character l.fonts l.font code ≡ true) (take l.code-index l.codes);
    }
