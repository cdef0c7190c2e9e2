-- Seams of a word: places at which it can be parted, so that both parts become by themselves what they become in it, but for a kern
-- between them (TeX: The Program, section 909).
use Rattle.std.specs.Prelude.{◌≡◌, ℕ, ◌+◌, ◌-◌, ◌<◌, Bool, false, nat_le, if◌then◌else◌, List, [], ◌∷◌, ◌++◌, length, take, drop}
use Rattle.tx_tfm.specs.declared.metrics.Metrics.{Metrics}
use Rattle.tx_ligkern.specs.declared.item.LigItem.{LigItem}
use Rattle.tx_ligkern.specs.declared.pair.Met.{Met}
use Rattle.tx_ligkern.specs.declared.pair.Met.TheVariants.{Nothing, Kern, Ligature}
use Rattle.tx_ligkern.specs.declared.piece.Piece.{Piece}
use Rattle.tx_ligkern.specs.declared.seam.Seam.{Seam}
use Rattle.tx_ligkern.specs.Composed.{composed}
use Rattle.tx_ligkern.specs.Composing.{Becomes}
use Rattle.tx_ligkern.specs.Pairs.{kern_in, met_of}
use Rattle.tx_ligkern.specs.Pieces.{code_of, items_of}

-- a seam of a word: the whole word is composed of what the characters before it become, without a right boundary, of the kern that a
-- pair meets, or nothing, and of what those behind it become, without a left boundary
pub record IsSeam (m : Metrics) (chars : List ℕ) (left right : Bool) (seam : Seam) : Type 0 where
  pub met : Met
  pub replaced_is : seam.replaced ≡ length (kern_in met)
  pub item_is : seam.item ≡ length (composed m (take seam.place chars) left false)
  pub whole_is : composed m chars left right ≡ composed m (take seam.place chars) left false ++ (kern_in met ++ composed m (drop seam.place chars) false right)

-- how many pieces a boundary is
abbrev pub boundary_count : Bool → ℕ
boundary_count counts = if counts then 1 else 0

-- the same of the pieces of a word: of such as stand before the seam, its left boundary among them, and behind it
pub record IsCut (m : Metrics) (left : Bool) (pieces : List Piece) (seam : Seam) : Type 0 where
  pub front : List Piece
  pub behind : List Piece
  pub are : pieces ≡ front ++ behind
  pub some : 0 < length front
  pub more : 0 < length behind
  pub place_is : boundary_count left + seam.place ≡ length front
  pub items : List LigItem
  pub first : Becomes m front items
  pub item_is : seam.item ≡ length items
  pub met : Met
  pub replaced_is : seam.replaced ≡ length (kern_in met)
  pub whole : (others : List LigItem) → Becomes m behind others → Becomes m pieces (items ++ (kern_in met ++ others))

-- the seam before a piece that is met for the first time, by what the pair meets: none where that is a ligature command
abbrev pub noted_by : Met → ℕ → ℕ → List Seam
noted_by Nothing place item = record { place = place; item = item; replaced = 0 } ∷ []
noted_by (Kern size) place item = record { place = place; item = item; replaced = 1 } ∷ []
noted_by Ligature place item = []

-- the seams that a pair shows, where so many pieces hadn't been met before, so many stand behind the pair, the last place is `end`, and
-- so many items are done
abbrev pub seen : Metrics → Piece → Piece → ℕ → ℕ → ℕ → ℕ → List Seam
seen m current next fresh behind end done =
    if nat_le fresh behind then [] else noted_by (met_of m (code_of current) (code_of next)) (end - fresh) (done + length (items_of current))
