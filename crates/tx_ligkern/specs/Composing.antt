-- Composing a word (TeX: The Program, section 545): its pieces from the cursor on, and what becomes of them. The cursor
-- begins at the first piece, and moves to the right past what is finished.
use Rattle.std.specs.Prelude.{◌≡◌, ℕ, ◌<◌, ◌≤◌, ◌/◌, ◌%◌, ◌==◌, Bool, if◌then◌else◌, Some, None, List, [], ◌∷◌, ◌++◌, take, drop, All, IsTrue}
use Rattle.std.specs.List.{flat_map}
use Rattle.tx_tfm.specs.declared.file.Word.{Word}
use Rattle.tx_tfm.specs.declared.metrics.Metrics.{Metrics}
use Rattle.tx_tfm.specs.Format.{is_there}
use Rattle.tx_tfm.specs.LigKern.{command_of}
use Rattle.tx_tfm.specs.Metrics.{kern_of}
use Rattle.tx_tfm.specs.Rewriting.{kind_of}
use Rattle.tx_ligkern.specs.declared.item.LigItem.{LigItem}
use Rattle.tx_ligkern.specs.declared.item.LigItem.TheVariants.{Kern}
use Rattle.tx_ligkern.specs.declared.piece.Piece.{Piece}
use Rattle.tx_ligkern.specs.declared.piece.Piece.TheVariants.{Ligature}
use Rattle.tx_ligkern.specs.Pieces.{code_of, items_of, originals, word_of}

-- whether a ligature command keeps the piece at the cursor, and the one after it
abbrev pub keeps_current : Word → Bool
keeps_current w = kind_of w / 2 % 2 == 1

abbrev pub keeps_next : Word → Bool
keeps_next w = kind_of w % 2 == 1

-- how many pieces it passes over
abbrev pub passes : Word → ℕ
passes w = kind_of w / 4

-- the ligature of a command, in the stead of those of the pair that aren't kept
abbrev pub ligature : Word → Piece → Piece → Piece
ligature w current next =
    Ligature w.d ((if keeps_current w then [] else originals current) ++ (if keeps_next w then [] else originals next))

-- what stands in place of a pair after the command
abbrev pub in_place : Word → Piece → Piece → List Piece
in_place w current next =
    (if keeps_current w then current ∷ [] else []) ++ ligature w current next ∷ (if keeps_next w then next ∷ [] else [])

-- the pieces from the new cursor on
abbrev pub ahead : Word → Piece → Piece → List Piece → List Piece
ahead w current next rest = drop (passes w) (in_place w current next) ++ rest

-- what is finished with the pieces that the cursor passes over
abbrev pub passed : Word → Piece → Piece → List LigItem
passed w current next = flat_map items_of (take (passes w) (in_place w current next))

-- what becomes of the pieces from the cursor on: nothing follows, a pair meets no command, a kern, or a ligature command
pub data Becomes (m : Metrics) : List Piece → List LigItem → Type 0 where
  Empty : Becomes m [] []
  Last : (piece : Piece) → Becomes m (piece ∷ []) (items_of piece)
  Apart : (current next : Piece) (rest : List Piece) (items : List LigItem)
      → command_of m.file (code_of current) (code_of next) ≡ None → Becomes m (next ∷ rest) items
      → Becomes m (current ∷ next ∷ rest) (items_of current ++ items)
  Kerned : (current next : Piece) (rest : List Piece) (items : List LigItem) (w : Word)
      → command_of m.file (code_of current) (code_of next) ≡ Some w → 128 ≤ w.c → Becomes m (next ∷ rest) items
      → Becomes m (current ∷ next ∷ rest) (items_of current ++ Kern (kern_of m w) ∷ items)
  Joined : (current next : Piece) (rest : List Piece) (items : List LigItem) (w : Word)
      → command_of m.file (code_of current) (code_of next) ≡ Some w → w.c < 128 → Becomes m (ahead w current next rest) items
      → Becomes m (current ∷ next ∷ rest) (passed w current next ++ items)

-- each word of characters that the font has becomes something, whichever of its boundaries count
abbrev pub AllWordsEnd : Metrics → Type 0
AllWordsEnd m = (chars : List ℕ) (left right : Bool) → All (λ c. IsTrue (is_there m.file c)) chars → (items : List LigItem) × Becomes m (word_of chars left right) items
