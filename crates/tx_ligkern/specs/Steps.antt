-- One step of composing a word, at the pair at the cursor.
use Rattle.std.specs.Prelude.{◌≡◌, ℕ, ◌*◌, IsTrue, Option, Some, None, List, [], ◌∷◌, ◌++◌, length, map, nat_lt, if◌then◌else◌}
use Rattle.tx_tfm.specs.declared.file.Word.{Word}
use Rattle.tx_tfm.specs.declared.metrics.Metrics.{Metrics}
use Rattle.tx_tfm.specs.LigKern.{command_of}
use Rattle.tx_tfm.specs.Metrics.{kern_of}
use Rattle.tx_tfm.specs.Rewriting.{ends_within}
use Rattle.tx_ligkern.specs.declared.item.LigItem.{LigItem}
use Rattle.tx_ligkern.specs.declared.item.LigItem.TheVariants.{Kern}
use Rattle.tx_ligkern.specs.declared.piece.Piece.{Piece}
use Rattle.tx_ligkern.specs.Pieces.{code_of, items_of}
use Rattle.tx_ligkern.specs.Composing.{ahead, passed}

-- the pieces from the cursor on after the step, by the command that the pair meets
abbrev pub onward : Option Word → Piece → Piece → List Piece → List Piece
onward None current next rest = next ∷ rest
onward (Some w) current next rest = if nat_lt w.c 128 then ahead w current next rest else next ∷ rest

-- what is finished by the step
abbrev pub finished : Metrics → Option Word → Piece → Piece → List LigItem
finished m None current next = items_of current
finished m (Some w) current next = if nat_lt w.c 128 then passed w current next else items_of current ++ Kern (kern_of m w) ∷ []

-- a step was made: what stands at the cursor and behind it now, and what is done
pub record Moved (m : Metrics) (current next : Piece) (rest : List Piece) (done : List LigItem) (cursor : Piece) (rest' : List Piece) (done' : List LigItem) : Type 0 where
  pub ahead_is : cursor ∷ rest' ≡ onward (command_of m.file (code_of current) (code_of next)) current next rest
  pub done_is : done' ≡ done ++ finished m (command_of m.file (code_of current) (code_of next)) current next

-- the same for a ligature command
pub record Carried (w : Word) (current next : Piece) (rest : List Piece) (done : List LigItem) (cursor : Piece) (rest' : List Piece) (done' : List LigItem) : Type 0 where
  pub ahead_is : cursor ∷ rest' ≡ ahead w current next rest
  pub done_is : done' ≡ done ++ passed w current next

-- the most commands that pieces can meet: a thousand for each of them
unfoldable pub most_commands : List Piece → ℕ
most_commands pieces = 1000 * length pieces

-- composing these pieces ends
abbrev pub Ends : Metrics → List Piece → Type 0
Ends m pieces = IsTrue (ends_within m.file (most_commands pieces) (map code_of pieces))
