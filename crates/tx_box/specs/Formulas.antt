-- The formula that is being built: its noads, and the nodes behind the last of them, which stand in its list as in any other (TeX: The
-- Program, sections 212, 1076 and 1168).
use Rattle.std.specs.Prelude.{ℤ, List, [], ◌∷◌, ◌++◌, map}
use Rattle.tx_mlist.specs.declared.kinds.AtomKind.{AtomKind}
use Rattle.tx_mlist.specs.Items.{MathItem, atom, material, empty, packed}
use Rattle.tx_nest.specs.Changed.{with_nodes}
use Rattle.tx_nest.specs.Lending.{with_top}
use Rattle.tx_node.specs.Items.{PackedBox}
use Rattle.tx_box.specs.declared.parts.Lists.{Lists}
use Rattle.tx_box.specs.declared.parts.OpenFormula.{OpenFormula}

-- what becomes of the innermost formula, if one is being built
abbrev pub with_first : (OpenFormula → OpenFormula) → List OpenFormula → List OpenFormula
with_first change [] = []
with_first change (formula ∷ around) = change formula ∷ around

-- more noads at its end
abbrev pub with_more : List MathItem → OpenFormula → OpenFormula
with_more items formula = record formula { noads = formula.noads ++ items }

-- the nodes in its list become noads
abbrev pub settled : Lists → Lists
settled lists = record lists {
  nest = with_top lists.nest (with_nodes lists.nest.innermost []);
  formulas = with_first (with_more (map material lists.nest.innermost.nodes)) lists.formulas;
}

-- a noad stands behind them
abbrev pub noad_behind : MathItem → Lists → Lists
noad_behind item lists = record lists { formulas = with_first (with_more (item ∷ [])) lists.formulas }

abbrev pub with_noad : MathItem → Lists → Lists
with_noad item lists = noad_behind item (settled lists)

-- a box that is shifted down by so much is the nucleus of an atom
abbrev pub with_box : AtomKind → ℤ → PackedBox → Lists → Lists
with_box kind shift b lists = with_noad (atom kind (packed shift b) empty empty) lists
