-- A list of pieces that was put out only in part.
use Rattle.std.specs.Prelude.{◌≡◌, List, [], ◌∷◌, ◌++◌, Option}
use Rattle.tx_io.specs.Output.{Output, Piece, told}
use Rattle.tx_io.specs.Sink.{IsPutInPart}

-- of the next piece, if there is one, a part
abbrev pub IsNextInPart : Option Output → List Piece → Option Output → Type 0
IsNextInPart before [] after = after ≡ before
IsNextInPart before (next ∷ later) after = IsPutInPart before next after

-- The first pieces were put out whole, then perhaps a part of the next one, and nothing of the later ones.
pub record IsCutShort (before : Option Output) (pieces : List Piece) (after : Option Output) : Type 0 where
  pub whole : List Piece
  pub left : List Piece
  pub are : pieces ≡ whole ++ left
  pub next : IsNextInPart (told before whole) left after
