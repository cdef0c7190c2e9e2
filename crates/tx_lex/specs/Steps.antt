-- What the steps of reading find, in the words of the definitions: a character is its code and the place in the line's
-- bytes behind which the rest stands.
use Rattle.std.specs.Prelude.{◌≡◌, ◌≤◌, ℕ, Some, List, ◌∷◌, drop, length}
use Rattle.tx_char.specs.declared.category.Cat.{Cat}
use Rattle.tx_lex.specs.declared.types.Character.{Character}
use Rattle.tx_lex.specs.declared.types.ReadState.{ReadState}
use Rattle.tx_lex.specs.Notation.{Seen, reduction}
use Rattle.tx_lex.specs.Characters.{characters}
use Rattle.tx_lex.specs.Reading.{kept}

-- a character found in these bytes, with the rest behind it
abbrev pub seen_at : List ℕ → Character → Seen
seen_at bytes found = record { code = found.code; rest = drop found.next bytes }

-- a notation begins with this code before these bytes, and stands for this character
pub record IsDenoted (codes : List Cat) (first : ℕ) (behind : List ℕ) (found : Character) : Type 0 where
  pub stands_for : reduction codes first behind ≡ Some (seen_at behind found)
  pub takes : 2 ≤ found.next
  pub within : found.next ≤ length behind

-- this character is the first of a line that ends in these bytes, and the others stand behind it
pub record IsReadFrom (codes : List Cat) (line bytes : List ℕ) (found : Character) : Type 0 where
  pub first : characters codes line ≡ seen_at bytes found ∷ characters codes (drop found.next bytes)
  pub within : found.next ≤ length bytes

-- this character is the first of such a line that is not dropped in this state
pub record IsKeptFrom (codes : List Cat) (state : ReadState) (line bytes : List ℕ) (found : Character) : Type 0 where
  pub first : kept codes state line ≡ seen_at bytes found ∷ characters codes (drop found.next bytes)
  pub within : found.next ≤ length bytes
