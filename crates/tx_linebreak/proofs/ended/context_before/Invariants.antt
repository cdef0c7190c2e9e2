use Rattle.std.proofs.Common.{◌≡◌}
use Rattle.tx_linebreak.specs.Breaks.{context_from, outset}
use Rattle.tx_linebreak.proofs.ended.context_before.Given as goal

abbrev pub invariant-loop-at : goal.invariant-loop-at
invariant-loop-at l = l.context ≡ context_from outset l.pieces l.at
