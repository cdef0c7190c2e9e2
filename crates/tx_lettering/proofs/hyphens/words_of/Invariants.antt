use Rattle.std.proofs.Common.{◌≡◌, drop}
use Rattle.std.specs.Prelude.{option_map}
use Rattle.tx_lettering.specs.Hyphens.{words_of}
use Rattle.tx_lettering.proofs.Signs.{led}
use Rattle.tx_lettering.proofs.hyphens.words_of.Given as goal

-- the words so far, of which one is open, stand before those of the rest
abbrev pub invariant-loop-token : goal.invariant-loop-token
invariant-loop-token l =
    option_map (led l.words.items l.word) (words_of l.table.table l.numbers (drop l.token-index l.tokens)) ≡ words_of l.table.table l.numbers l.tokens
