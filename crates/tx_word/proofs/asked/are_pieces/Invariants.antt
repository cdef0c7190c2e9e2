use Rattle.std.proofs.Common.{take}
use Rattle.std.specs.List.{All}
use Rattle.tx_word.specs.Lists.{IsPiece}
use Rattle.tx_word.proofs.asked.are_pieces.Given as goal

abbrev pub invariant-loop-piece : goal.invariant-loop-piece
invariant-loop-piece l = All (IsPiece l.fonts) (take l.piece-index l.pieces)
