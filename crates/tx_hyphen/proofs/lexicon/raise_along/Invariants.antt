use Rattle.std.proofs.Common.{drop}
use Rattle.tx_hyphen.proofs.Raised.{IsRaisedAlong}
use Rattle.tx_hyphen.proofs.lexicon.raise_along.Given as goal

abbrev pub invariant-loop-letter : goal.invariant-loop-letter
invariant-loop-letter l =
    IsRaisedAlong l.trie l.spellings l.initial.levels l.levels l.at (drop l.letter-index l.text) l.text
