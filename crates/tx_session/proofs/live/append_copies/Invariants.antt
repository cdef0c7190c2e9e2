use Rattle.std.proofs.Common.{◌≡◌, ◌++◌, take}
use Rattle.tx_session.proofs.live.append_copies.Given as goal

abbrev pub invariant-loop-change : goal.invariant-loop-change
invariant-loop-change l = l.copies ≡ l.initial.copies ++ take l.change-index l.changes
