use Rattle.std.proofs.Common.{◌≡◌, drop}
use Rattle.tx_files.specs.Reads.{asks_for_any}
use Rattle.tx_files.proofs.seen.asks_for_any.Given as goal

abbrev pub invariant-loop-change : goal.invariant-loop-change
invariant-loop-change l = asks_for_any l.seen (drop l.change-index l.changes) ≡ asks_for_any l.seen l.changes
