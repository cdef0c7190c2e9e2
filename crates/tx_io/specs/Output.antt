-- What a program puts out: text that it says, and files that it saves.
use Rattle.std.specs.Prelude.{ℕ, List, [], ◌∷◌, ◌++◌, Option}
use Rattle.std.specs.Option.{option_map}
use Rattle.std.specs.FinMap.{insert}
use Rattle.tx_bytes.specs.Files.{Files}

-- all that was put out so far
pub record Output : Type 0 where
  pub said : List ℕ
  pub saved : Files

-- one piece of output: text, or a file by its name and its bytes
pub data Piece : Type 0 where
  Say : List ℕ → Piece
  Save : List ℕ → List ℕ → Piece

-- the output with one more piece: text goes behind what was said, a file in the place of one that had its name
abbrev pub with_piece : Output → Piece → Output
with_piece output (Say bytes) = record output { said = output.said ++ bytes }
with_piece output (Save name bytes) = record output { saved = insert output.saved name bytes }

-- the output with more pieces, in their order; what a sink doesn't tell, it doesn't tell afterwards
abbrev pub told : Option Output → List Piece → Option Output
told output [] = output
told output (piece ∷ pieces) = told (option_map (λ known. with_piece known piece) output) pieces
