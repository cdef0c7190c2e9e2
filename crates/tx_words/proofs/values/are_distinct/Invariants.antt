use Rattle.std.proofs.Common.{◌≡◌, drop}
use Rattle.tx_words.specs.Values.{are_distinct}
use Rattle.tx_words.proofs.values.are_distinct.Given as goal

abbrev pub invariant-loop-i : goal.invariant-loop-i
invariant-loop-i l = are_distinct (drop l.i l.names) ≡ are_distinct l.names
