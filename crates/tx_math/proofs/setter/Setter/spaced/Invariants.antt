use Rattle.std.proofs.Common.{◌≡◌, length, None}
use Rattle.tx_math.specs.Boxes.{with_more}
use Rattle.tx_math.specs.Converting.{pieces_in}
use Rattle.tx_math.specs.Setters.{math_in}
use Rattle.tx_math.specs.Spacing.{spaced, spaces_of}
use Rattle.tx_math.proofs.setter.Setter.spaced.Given as goal

abbrev pub invariant-loop-piece : goal.invariant-loop-piece
invariant-loop-piece l =
    with_more l.list (spaced (math_in l.self) l.penalties l.fences l.spaces (pieces_in l.rest))
    ≡ spaced (math_in l.self) l.penalties l.fences (spaces_of l.style None) (pieces_in l.fn.pieces)

abbrev pub decreases-loop-piece : goal.decreases-loop-piece
decreases-loop-piece l = length l.rest
