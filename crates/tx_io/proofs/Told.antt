-- Output in two parts is output in one.
use Rattle.std.proofs.Common.{◌≡◌, List, [], ◌∷◌, ◌++◌, Option, None, refl}
use Rattle.std.specs.Option.{option_map}
use Rattle.tx_io.specs.Output.{Output, Piece, with_piece, told}

pub told-append : (before : Option Output) (first second : List Piece) → told (told before first) second ≡ told before (first ++ second)
told-append before [] second = refl
told-append before (piece ∷ first) second = told-append (option_map (λ known. with_piece known piece) before) first second

-- a sink that tells nothing tells nothing afterwards
pub told-None : (pieces : List Piece) → told None pieces ≡ None
told-None [] = refl
told-None (piece ∷ pieces) = told-None pieces
