use Rattle.std.proofs.Common.{◌≡◌, drop}
use Rattle.tx_align.specs.Entries.{met_from, nothing_met}
use Rattle.tx_align.proofs.meeting.met_in.Given as goal

abbrev pub invariant-loop-item : goal.invariant-loop-item
invariant-loop-item l = met_from l.met (drop l.item-index l.rows) ≡ met_from nothing_met l.rows
