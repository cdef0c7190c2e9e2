use Rattle.std.proofs.Common.{◌≡◌, None, drop, fold}
use Rattle.tx_align.specs.Widths.{widened}
use Rattle.tx_align.proofs.widths.widest.Given as goal

abbrev pub invariant-loop-entry : goal.invariant-loop-entry
invariant-loop-entry l = fold (widened l.sizing) l.most (drop l.entry-index l.entries) ≡ fold (widened l.sizing) None l.entries
