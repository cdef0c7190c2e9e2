use Rattle.tx_hyphen.proofs.Paths.{IsOnWay}
use Rattle.tx_hyphen.proofs.trie.Trie.find.Given as goal

abbrev pub invariant-loop-letter : goal.invariant-loop-letter
invariant-loop-letter l = IsOnWay l.self l.letters l.letter-index l.at
