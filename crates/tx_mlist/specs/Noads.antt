-- What noads are in code.
use Rattle.std.specs.Prelude.{◌≡◌, ◌≤◌, ℕ, List, map}
use Rattle.tx_node.specs.Nodes.{item_of}
use Rattle.tx_mlist.specs.declared.noad.Atom.{Atom as AtomFields}
use Rattle.tx_mlist.specs.declared.noad.Choice.{Choice as ChoiceFields}
use Rattle.tx_mlist.specs.declared.noad.Field.{Field}
use Rattle.tx_mlist.specs.declared.noad.Field.TheVariants.{Empty, Character, Packed, Formula}
use Rattle.tx_mlist.specs.declared.noad.Fraction.{Fraction as FractionFields}
use Rattle.tx_mlist.specs.declared.noad.Noad.{Noad}
use Rattle.tx_mlist.specs.declared.noad.Noad.TheVariants.{Atom, Fraction, Choice, Plain, Node}
use Rattle.tx_mlist.specs.Items.{MathItem, Part, atom, fraction, choice, small, material, empty, letter, packed, formula, gathered}
use Rattle.tx_mlist.specs.Counts.{depth_of}

-- the part that a field is
abbrev pub part_of : Field → Part
part_of Empty = empty
part_of (Character c) = letter c
part_of (Packed shift b) = packed shift b
part_of (Formula list) = formula (gathered list)

-- the item that an atom, a fraction or a choice is
abbrev pub atom_of : AtomFields → MathItem
atom_of a = atom a.kind (part_of a.nucleus) (part_of a.superscript) (part_of a.subscript)

abbrev pub fraction_of : FractionFields → MathItem
fraction_of f = fraction f.head (gathered f.numerator) (gathered f.denominator)

abbrev pub choice_of : ChoiceFields → MathItem
choice_of c = choice (gathered c.display) (gathered c.text) (gathered c.script) (gathered c.script_script)

-- the item that a noad is
abbrev pub math_of : Noad → MathItem
math_of (Atom a) = atom_of a.value
math_of (Fraction f) = fraction_of f.value
math_of (Choice c) = choice_of c.value
math_of (Plain p) = small p
math_of (Node n) = material (item_of n)

-- the list that noads are
abbrev pub mlist_of : List Noad → List MathItem
mlist_of noads = map math_of noads

-- what a list keeps that a noad has: how deep lists nest in it. A group of a document gives at most two lists in one another, a
-- fraction in a formula and what stands above and below its line, and at most 255 groups are open; so, itself counted, at most 510
-- lists stand in one another
pub record IsInner (depth : ℕ) (list : List MathItem) : Type 0 where
  pub depth_is : depth ≡ depth_of (gathered list)
  pub depth_in : depth ≤ 509
