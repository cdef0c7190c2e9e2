-- A code of lists of mathematics: a proof tells values apart by it. Each item is a row; the rows of an atom's parts stand behind it,
-- and those of each list before a row that closes it.
use Rattle.std.specs.Prelude.{◌≡◌, ℕ, zero, suc, ℤ, ◌⊎◌, List, [], ◌∷◌}
use Rattle.std.proofs.Common.{refl, ap, inl, inr}
use Rattle.std.specs.Coded.{Coded, code_by, coded×, coded⊎, coded_ℕ, coded_ℤ, coded_list}
use Rattle.tx_node.specs.Codes.{box_code, item_code}
use Rattle.tx_node.specs.Items.{Item, PackedBox}
use Rattle.tx_mlist.specs.declared.kinds.AtomKind.{AtomKind}
use Rattle.tx_mlist.specs.contracts.kinds.AtomKind as atom_kind
use Rattle.tx_mlist.specs.declared.kinds.FractionHead.{FractionHead}
use Rattle.tx_mlist.specs.contracts.kinds.FractionHead as fraction_head
use Rattle.tx_mlist.specs.declared.kinds.MathCharacter.{MathCharacter}
use Rattle.tx_mlist.specs.contracts.kinds.MathCharacter as math_character
use Rattle.tx_mlist.specs.declared.plain.PlainNoad.{PlainNoad}
use Rattle.tx_mlist.specs.declared.plain.PlainNoad.TheVariants.{Nonscript}
use Rattle.tx_mlist.specs.contracts.plain.PlainNoad as plain_noad
use Rattle.tx_mlist.specs.Items.{MathItem, Part, MathItems, atom, fraction, choice, small, material, empty, letter, packed, formula, nothing, followed}

-- an atom, a small item, an item of horizontal lists, a fraction, a character, a box; or what closes a list (0), an empty part (1),
-- a formula (2), a choice (3 and more)
abbrev pub Row : Type 0
Row = AtomKind ⊎ (PlainNoad ⊎ (Item ⊎ (FractionHead ⊎ (MathCharacter ⊎ ((ℤ × PackedBox) ⊎ ℕ)))))

abbrev pub rows_code : Coded (List Row)
rows_code =
    coded_list (coded⊎ atom_kind.the_row.coded (coded⊎ plain_noad.the_row.coded (coded⊎ item_code (coded⊎ fraction_head.the_row.coded
    (coded⊎ math_character.the_row.coded (coded⊎ (coded× coded_ℤ box_code) coded_ℕ))))))

abbrev pub atom_row : AtomKind → Row
atom_row kind = inl kind

abbrev pub small_row : PlainNoad → Row
small_row s = inr (inl s)

abbrev pub material_row : Item → Row
material_row i = inr (inr (inl i))

abbrev pub fraction_row : FractionHead → Row
fraction_row head = inr (inr (inr (inl head)))

abbrev pub letter_row : MathCharacter → Row
letter_row c = inr (inr (inr (inr (inl c))))

abbrev pub packed_row : ℤ → PackedBox → Row
packed_row shift b = inr (inr (inr (inr (inr (inl (shift, b))))))

abbrev pub mark_row : ℕ → Row
mark_row n = inr (inr (inr (inr (inr (inr n)))))

abbrev pub closing : Row
closing = mark_row 0

-- the rows of a list, of an item and of a part, before others
abbrev mutual
  pub rows : MathItems → List Row → List Row
  rows nothing behind = behind
  rows (followed item rest) behind = item_rows item (rows rest behind)

  pub item_rows : MathItem → List Row → List Row
  item_rows (atom kind nucleus superscript subscript) behind =
      atom_row kind ∷ part_rows nucleus (part_rows superscript (part_rows subscript behind))
  item_rows (fraction head above below) behind = fraction_row head ∷ rows above (closing ∷ rows below (closing ∷ behind))
  item_rows (choice display text script script_script) behind =
      mark_row 3 ∷ rows display (closing ∷ rows text (closing ∷ rows script (closing ∷ rows script_script (closing ∷ behind))))
  item_rows (small s) behind = small_row s ∷ behind
  item_rows (material i) behind = material_row i ∷ behind

  pub part_rows : Part → List Row → List Row
  part_rows empty behind = mark_row 1 ∷ behind
  part_rows (letter c) behind = letter_row c ∷ behind
  part_rows (packed shift b) behind = packed_row shift b ∷ behind
  part_rows (formula items) behind = mark_row 2 ∷ rows items (closing ∷ behind)

-- what was read so far, from the last row on: the list, those around it, and parts that wait for their atom
abbrev pub Read : Type 0
Read = MathItems × List MathItems × List Part

abbrev pub top_of : List MathItems → MathItems
top_of [] = nothing
top_of (list ∷ around) = list

abbrev pub rest_of : List MathItems → List MathItems
rest_of [] = []
rest_of (list ∷ around) = around

abbrev pub part_at : List Part → Part
part_at [] = empty
part_at (part ∷ parts) = part

abbrev pub parts_behind : List Part → List Part
parts_behind [] = []
parts_behind (part ∷ parts) = parts

-- what is read with a row more
abbrev pub with_atom : AtomKind → Read → Read
with_atom kind read = (
  followed (atom kind (part_at read.2) (part_at (parts_behind read.2)) (part_at (parts_behind (parts_behind read.2)))) read.0,
  read.1,
  parts_behind (parts_behind (parts_behind read.2)),
)

abbrev pub with_item : MathItem → Read → Read
with_item item read = (followed item read.0, read.1, read.2)

abbrev pub with_part : Part → Read → Read
with_part part read = (read.0, read.1, part ∷ read.2)

abbrev pub with_fraction : FractionHead → Read → Read
with_fraction head read =
    (followed (fraction head read.0 (top_of read.1)) (top_of (rest_of read.1)), rest_of (rest_of read.1), read.2)

abbrev pub with_formula : Read → Read
with_formula read = (top_of read.1, rest_of read.1, formula read.0 ∷ read.2)

abbrev pub with_choice : Read → Read
with_choice read = (
  followed (choice read.0 (top_of read.1) (top_of (rest_of read.1)) (top_of (rest_of (rest_of read.1)))) (top_of (rest_of (rest_of (rest_of read.1)))),
  rest_of (rest_of (rest_of (rest_of read.1))),
  read.2,
)

abbrev pub closed : Read → Read
closed read = (nothing, read.0 ∷ read.1, read.2)

abbrev pub with_mark : ℕ → Read → Read
with_mark zero read = closed read
with_mark (suc zero) read = with_part empty read
with_mark (suc (suc zero)) read = with_formula read
with_mark (suc (suc (suc n))) read = with_choice read

abbrev pub with_row : Row → Read → Read
with_row (inl kind) read = with_atom kind read
with_row (inr (inl s)) read = with_item (small s) read
with_row (inr (inr (inl i))) read = with_item (material i) read
with_row (inr (inr (inr (inl head)))) read = with_fraction head read
with_row (inr (inr (inr (inr (inl c))))) read = with_part (letter c) read
with_row (inr (inr (inr (inr (inr (inl b)))))) read = with_part (packed b.0 b.1) read
with_row (inr (inr (inr (inr (inr (inr n)))))) read = with_mark n read

abbrev pub read_rows : List Row → Read
read_rows [] = (nothing, [], [])
read_rows (row ∷ rest) = with_row row (read_rows rest)

-- a list that was closed, an item and a part read back before what stands behind them
mutual
  pub items_back : (items : MathItems) (behind : List Row) (around : List MathItems) (parts : List Part)
      → read_rows behind ≡ (nothing, around, parts) → read_rows (rows items behind) ≡ (items, around, parts)
  items_back nothing behind around parts e = e
  items_back (followed item rest) behind around parts e = item_back item (rows rest behind) rest around parts (items_back rest behind around parts e)

  pub item_back : (item : MathItem) (behind : List Row) (list : MathItems) (around : List MathItems) (parts : List Part)
      → read_rows behind ≡ (list, around, parts) → read_rows (item_rows item behind) ≡ (followed item list, around, parts)
  item_back (atom kind nucleus superscript subscript) behind list around parts e =
      ap (with_row (atom_row kind))
      (part_back nucleus (part_rows superscript (part_rows subscript behind)) list around (superscript ∷ subscript ∷ parts)
      (part_back superscript (part_rows subscript behind) list around (subscript ∷ parts) (part_back subscript behind list around parts e)))
  item_back (fraction head above below) behind list around parts e =
      ap (with_row (fraction_row head))
      (items_back above (closing ∷ rows below (closing ∷ behind)) (below ∷ list ∷ around) parts
      (ap (with_row closing) (items_back below (closing ∷ behind) (list ∷ around) parts (ap (with_row closing) e))))
  item_back (choice display text script script_script) behind list around parts e =
      ap (with_row (mark_row 3))
      (items_back display (closing ∷ rows text (closing ∷ rows script (closing ∷ rows script_script (closing ∷ behind))))
      (text ∷ script ∷ script_script ∷ list ∷ around) parts
      (ap (with_row closing)
      (items_back text (closing ∷ rows script (closing ∷ rows script_script (closing ∷ behind))) (script ∷ script_script ∷ list ∷ around) parts
      (ap (with_row closing)
      (items_back script (closing ∷ rows script_script (closing ∷ behind)) (script_script ∷ list ∷ around) parts
      (ap (with_row closing) (items_back script_script (closing ∷ behind) (list ∷ around) parts (ap (with_row closing) e))))))))
  item_back (small s) behind list around parts e = ap (with_row (small_row s)) e
  item_back (material i) behind list around parts e = ap (with_row (material_row i)) e

  pub part_back : (part : Part) (behind : List Row) (list : MathItems) (around : List MathItems) (parts : List Part)
      → read_rows behind ≡ (list, around, parts) → read_rows (part_rows part behind) ≡ (list, around, part ∷ parts)
  part_back empty behind list around parts e = ap (with_row (mark_row 1)) e
  part_back (letter c) behind list around parts e = ap (with_row (letter_row c)) e
  part_back (packed shift b) behind list around parts e = ap (with_row (packed_row shift b)) e
  part_back (formula items) behind list around parts e =
      ap (with_row (mark_row 2)) (items_back items (closing ∷ behind) (list ∷ around) parts (ap (with_row closing) e))

-- the first item; a list that a code gives has one
abbrev pub first_of : MathItems → MathItem
first_of nothing = small Nonscript
first_of (followed item rest) = item

-- an item by itself
abbrev pub math_code : Coded MathItem
math_code =
    code_by (List Row) rows_code (λ item. item_rows item []) (λ code. first_of (read_rows code).0)
    (λ item. ap (λ (read : Read). first_of read.0) (item_back item [] nothing [] [] refl))
