use Rattle.std.proofs.Common.{◌≡◌, drop, fold}
use Rattle.tx_align.specs.Entries.{further}
use Rattle.tx_align.proofs.grouping.count_of.Given as goal

abbrev pub invariant-loop-entry : goal.invariant-loop-entry
invariant-loop-entry l = fold further l.most (drop l.entry-index l.entries) ≡ fold further l.count l.entries
