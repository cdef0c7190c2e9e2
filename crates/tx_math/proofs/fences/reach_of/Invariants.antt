use Rattle.std.proofs.Common.{◌≡◌, drop}
use Rattle.tx_math.specs.Converting.{pieces_in}
use Rattle.tx_math.specs.Fences.{no_reach, with_pieces}
use Rattle.tx_math.specs.Setters.{IsReach}
use Rattle.tx_math.proofs.fences.reach_of.Given as goal

abbrev pub invariant-loop-piece : goal.invariant-loop-piece
invariant-loop-piece l =
    (with_pieces l.reach (pieces_in (drop l.piece-index l.pieces)) ≡ with_pieces no_reach (pieces_in l.pieces)) × IsReach l.reach
