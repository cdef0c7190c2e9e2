use Rattle.std.proofs.Common.{◌≡◌, ◌++◌, false}
use Rattle.tx_math.specs.Converting.{entries_in}
use Rattle.tx_math.specs.Entries.{left_behind}
use Rattle.tx_math.proofs.laying.without_hidden.Given as goal

abbrev pub invariant-loop-entry : goal.invariant-loop-entry
invariant-loop-entry l = entries_in l.left ++ left_behind l.hidden (entries_in l.entry-iterator.rest.items) ≡ left_behind false (entries_in l.fn.entries)
