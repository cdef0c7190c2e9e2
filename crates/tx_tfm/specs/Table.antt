-- The ligature commands of all pairs, a row for each left piece: in row j that of the j-th and the k-th of the characters and,
-- the 256th, the boundary. A row ends where only pairs without such a command follow; most rows are empty.
use Rattle.std.specs.Prelude.{◌≡◌, ℕ, ◌<◌, Option, Some, None, List, [], get_or, option_and_then, nat_lt, if◌then◌else◌}
use Rattle.tx_tfm.specs.declared.file.Tfm.{Tfm}
use Rattle.tx_tfm.specs.declared.file.Word.{Word}
use Rattle.tx_tfm.specs.LigKern.{found}
use Rattle.tx_tfm.specs.Rewriting.{ligature_of}

-- the k-th of the characters and, the 256th, the boundary
abbrev pub piece_of : ℕ → Option ℕ
piece_of k = if nat_lt k 256 then Some k else None

-- the k-th entry of a row; None where it has none
abbrev pub entry_of : List (Option Word) → ℕ → Option Word
entry_of row k = get_or row k None

-- a row has the ligature command of its left piece and each right one
pub record IsRowOf (t : Tfm) (left : Option ℕ) (row : List (Option Word)) : Type 0 where
  pub entry : (k : ℕ) → k < 257 → entry_of row k ≡ ligature_of t left (piece_of k)

-- a command that was found, if it is a ligature command and not a kern
abbrev pub ligature : Option Word → Option Word
ligature met = option_and_then (λ w. if nat_lt w.c 128 then Some w else None) met

-- a row has the ligature commands of the program from a place on, and none for the boundary
pub record IsRowFrom (t : Tfm) (start : ℕ) (row : List (Option Word)) : Type 0 where
  pub entry : (k : ℕ) → k < 256 → entry_of row k ≡ ligature (found t t.lengths.commands start k)
  pub boundary : entry_of row 256 ≡ None

-- the rows are those of the characters and, the 256th, of the boundary
pub record IsTableOf (t : Tfm) (rows : List (List (Option Word))) : Type 0 where
  pub row : (j : ℕ) → j < 257 → IsRowOf t (piece_of j) (get_or rows j [])
