-- What stands in a word while it is composed.
use Rattle.std.specs.Prelude.{ℕ, Bool, if◌then◌else◌, Option, Some, None, List, [], ◌∷◌, ◌++◌, map}
use Rattle.tx_ligkern.specs.declared.item.LigItem.{LigItem}
use Rattle.tx_ligkern.specs.declared.item.LigItem.TheVariants as items
use Rattle.tx_ligkern.specs.declared.piece.Piece.{Piece}
use Rattle.tx_ligkern.specs.declared.piece.Piece.TheVariants.{Boundary, Char, Ligature}

-- the boundary of a word where it counts
abbrev pub boundary : Bool → List Piece
boundary counts = if counts then Boundary ∷ [] else []

-- the characters of a word, between those of its boundaries that count
abbrev pub word_of : List ℕ → Bool → Bool → List Piece
word_of chars left right = boundary left ++ map (λ c. Char c) chars ++ boundary right

-- the code by which programs see a piece, None for a boundary
abbrev pub code_of : Piece → Option ℕ
code_of Boundary = None
code_of (Char code) = Some code
code_of (Ligature code from) = Some code

-- the characters of the word in whose stead a piece stands
abbrev pub originals : Piece → List ℕ
originals Boundary = []
originals (Char code) = code ∷ []
originals (Ligature code from) = from

-- what a piece is in the end; a boundary is nothing
abbrev pub items_of : Piece → List LigItem
items_of Boundary = []
items_of (Char code) = items.Char code ∷ []
items_of (Ligature code from) = items.Lig code from ∷ []
