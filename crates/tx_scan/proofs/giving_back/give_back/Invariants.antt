use Rattle.std.proofs.Common.{◌≡◌, length}
use Rattle.tx_pending.specs.Elements.{given_back}
use Rattle.tx_seen.specs.Readings.{last}
use Rattle.tx_scan.specs.Settled.{tokens_of}
use Rattle.tx_scan.proofs.giving_back.give_back.Given as goal

abbrev pub invariant-loop-left : goal.invariant-loop-left
invariant-loop-left l = given_back l.input (tokens_of (last l.left l.taken)) ≡ given_back l.initial.input (tokens_of (last l.initial.left l.initial.taken))

abbrev pub decreases-loop-left : goal.decreases-loop-left
decreases-loop-left l = length l.taken
