use Rattle.std.proofs.Common.{◌≡◌, ◌++◌, map, take}
use Rattle.tx_ligkern.specs.declared.piece.Piece.TheVariants.{Char}
use Rattle.tx_ligkern.proofs.piece.push_chars.Given as goal

abbrev pub invariant-loop-code : goal.invariant-loop-code
invariant-loop-code l = l.pieces.items ≡ l.initial.pieces.items ++ map (λ c. Char c) (take l.code-index l.chars)
