use Rattle.std.proofs.Common.{◌≡◌, drop}
use Rattle.std.specs.Prelude.{None}
use Rattle.tx_hyphen.specs.Spelling.{rest_spells}
use Rattle.tx_hyphen.proofs.Spelled.{joined}
use Rattle.tx_hyphen.proofs.reading.read_whole.Given as goal

abbrev pub invariant-loop-character : goal.invariant-loop-character
invariant-loop-character l =
    joined l.letters l.levels (rest_spells l.kind l.lower l.level (drop l.character-index l.text))
    ≡ rest_spells l.kind l.lower None l.text
