use Rattle.std.proofs.Common.{◌≡◌, [], drop, fold, replicate}
use Rattle.tx_align.specs.Grouping.{put}
use Rattle.tx_align.proofs.grouping.endings.Given as goal

abbrev pub invariant-loop-entry : goal.invariant-loop-entry
invariant-loop-entry l = fold put l.groups.items (drop l.entry-index l.entries) ≡ fold put (replicate l.count []) l.entries
