use Rattle.tx_hyphen.proofs.Paths.{IsOnPath}
use Rattle.tx_hyphen.proofs.trie.node_for.Given as goal

abbrev pub invariant-loop-letter : goal.invariant-loop-letter
invariant-loop-letter l = IsOnPath l.initial.nodes.items l.nodes.items l.letters l.letter-index l.at
