use Rattle.std.proofs.Common.{◌≡◌, drop}
use Rattle.tx_math.specs.Classes.{ends_operands}
use Rattle.tx_math.specs.Converting.{entries_in}
use Rattle.tx_math.proofs.classes.ends_operands.Given as goal

abbrev pub invariant-loop-entry : goal.invariant-loop-entry
invariant-loop-entry l = ends_operands (entries_in (drop l.entry-index l.entries)) ≡ ends_operands (entries_in l.entries)
