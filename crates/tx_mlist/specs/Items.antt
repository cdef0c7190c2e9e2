-- Lists of mathematics (TeX: The Program, sections 680 to 689; The TeXbook, chapters 17 and 26).
use Rattle.std.specs.Prelude.{ℤ, List, [], ◌∷◌}
use Rattle.tx_node.specs.Items.{Item, PackedBox}
use Rattle.tx_mlist.specs.declared.kinds.AtomKind.{AtomKind}
use Rattle.tx_mlist.specs.declared.kinds.FractionHead.{FractionHead}
use Rattle.tx_mlist.specs.declared.kinds.MathCharacter.{MathCharacter}
use Rattle.tx_mlist.specs.declared.plain.PlainNoad.{PlainNoad}

-- an item of a list of mathematics: an atom, with its nucleus, superscript and subscript; a fraction, with its line, the delimiters on
-- both sides, and the lists above and below the line; the lists of \mathchoice, for display, text, script and scriptscript style; a
-- style, \nonscript, glue or a kern in mu, or a delimiter of \left or \right; or an item that a horizontal list may hold, as it is
mutual
  pub data MathItem : Type 0 where
    atom : AtomKind → Part → Part → Part → MathItem
    fraction : FractionHead → MathItems → MathItems → MathItem
    choice : MathItems → MathItems → MathItems → MathItems → MathItem
    small : PlainNoad → MathItem
    material : Item → MathItem

  -- a part of an atom: nothing, a character of a family, a box that is shifted down by so many sp, or a formula
  pub data Part : Type 0 where
    empty : Part
    letter : MathCharacter → Part
    packed : ℤ → PackedBox → Part
    formula : MathItems → Part

  -- items in their order: nothing more, or one and those behind it
  pub data MathItems : Type 0 where
    nothing : MathItems
    followed : MathItem → MathItems → MathItems

-- a list, as the items of a part
abbrev pub gathered : List MathItem → MathItems
gathered [] = nothing
gathered (item ∷ rest) = followed item (gathered rest)

-- the items of a part, as a list
abbrev pub listed : MathItems → List MathItem
listed nothing = []
listed (followed item rest) = item ∷ listed rest
