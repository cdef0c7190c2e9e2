use Rattle.std.proofs.Common.{◌≡◌}
use Rattle.tx_linebreak.specs.Breaks.{past_discardables}
use Rattle.tx_par.proofs.first.past_discardables.Given as goal

abbrev pub invariant-loop-at : goal.invariant-loop-at
invariant-loop-at l = past_discardables l.pieces l.at ≡ past_discardables l.pieces l.fn.place
