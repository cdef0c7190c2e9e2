-- What a word becomes, as a function: the steps of Steps.antt, as many as any word can need.
use Rattle.std.specs.Prelude.{ℕ, zero, suc, ◌+◌, ◌*◌, Bool, List, [], ◌∷◌, ◌++◌, length}
use Rattle.tx_tfm.specs.declared.metrics.Metrics.{Metrics}
use Rattle.tx_tfm.specs.LigKern.{command_of}
use Rattle.tx_ligkern.specs.declared.item.LigItem.{LigItem}
use Rattle.tx_ligkern.specs.declared.piece.Piece.{Piece}
use Rattle.tx_ligkern.specs.Pieces.{code_of, items_of, word_of}
use Rattle.tx_ligkern.specs.Steps.{finished, most_commands, onward}

-- what becomes of the pieces from the cursor on, within so many steps
unfoldable pub composed_within : ℕ → Metrics → List Piece → List LigItem
composed_within zero m pieces = []
composed_within (suc n) m [] = []
composed_within (suc n) m (piece ∷ []) = items_of piece
composed_within (suc n) m (current ∷ next ∷ rest) =
    finished m (command_of m.file (code_of current) (code_of next)) current next
    ++ composed_within n m (onward (command_of m.file (code_of current) (code_of next)) current next rest)

-- the most steps of pieces: a ligature command puts in at most one piece, and each other step passes over one
unfoldable pub most_steps : List Piece → ℕ
most_steps pieces = suc (2 * most_commands pieces + length pieces)

-- what characters become in a font, where those of their boundaries count that are told
unfoldable pub composed : Metrics → List ℕ → Bool → Bool → List LigItem
composed m chars left right = composed_within (most_steps (word_of chars left right)) m (word_of chars left right)
