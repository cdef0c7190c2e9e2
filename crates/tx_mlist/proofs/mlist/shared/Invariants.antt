use Rattle.std.proofs.Common.{◌≡◌, ◌++◌, drop}
use Rattle.tx_mlist.specs.Noads.{mlist_of}
use Rattle.tx_mlist.proofs.mlist.shared.Given as goal

abbrev pub invariant-loop-noad : goal.invariant-loop-noad
invariant-loop-noad l = mlist_of l.copy.items ++ mlist_of (drop l.noad-index l.noads) ≡ mlist_of l.noads
