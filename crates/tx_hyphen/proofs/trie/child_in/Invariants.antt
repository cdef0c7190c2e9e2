use Rattle.std.specs.Prelude.{suc}
use Rattle.std.specs.Option.{option_map_or}
use Rattle.tx_hyphen.proofs.Rows.{IsRow}
use Rattle.tx_hyphen.proofs.trie.child_in.Given as goal

abbrev pub invariant-loop-next : goal.invariant-loop-next
invariant-loop-next l = IsRow l.nodes l.parent l.letter l.next

abbrev pub decreases-loop-next : goal.decreases-loop-next
decreases-loop-next l = option_map_or suc l.next 0
