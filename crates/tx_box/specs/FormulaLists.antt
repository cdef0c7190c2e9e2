-- How a formula begins and ends (TeX: The Program, sections 1136, 1145 and 1184 to 1186).
use Rattle.std.specs.Prelude.{◌≡◌, List, [], ◌∷◌, Option, Some, None}
use Rattle.tx_nest.specs.declared.nest.Nest.{Nest}
use Rattle.tx_nest.specs.Grafs.{list_within}
use Rattle.tx_node.specs.Items.{Item}
use Rattle.tx_prim.specs.declared.modes.Mode.{Mode}
use Rattle.tx_prim.specs.declared.modes.Mode.TheVariants.{DisplayMath, Math}
use Rattle.tx_box.specs.declared.parts.Lists.{Lists}
use Rattle.tx_box.specs.declared.parts.OpenFormula.{OpenFormula}
use Rattle.tx_box.specs.Building.{left_list}

-- a formula begins in the list that is being built, which waits around it: a list of this mode
abbrev pub with_formula_in : Mode → Lists → Lists
with_formula_in mode lists = record lists {
  nest = record { innermost = list_within mode lists.nest.innermost; around = lists.nest.innermost ∷ lists.nest.around };
  formulas = record { noads = []; above = None } ∷ lists.formulas;
}

abbrev pub with_formula : Lists → Lists
with_formula lists = with_formula_in Math lists

-- so does a displayed one (section 1145)
abbrev pub with_display : Lists → Lists
with_display lists = with_formula_in DisplayMath lists

-- it leaves the lists when it ends: its noads, the nodes behind them, and the lists around; None where no formula is open or no list
-- waits around it, which no command makes
pub record FormulaLeft : Type 0 where
  pub formula : OpenFormula
  pub nodes : List Item
  pub lists : Lists

abbrev pub left_in : Lists → List OpenFormula → Option Nest → Option FormulaLeft
left_in lists [] left = None
left_in lists (formula ∷ around) None = None
left_in lists (formula ∷ around) (Some left) = Some (record {
  formula = formula;
  nodes = lists.nest.innermost.nodes;
  lists = record lists { formulas = around; nest = left };
})

abbrev pub left_formula : Lists → Option FormulaLeft
left_formula lists = left_in lists lists.formulas (left_list lists.nest.innermost lists.nest.around)

-- the same in code
abbrev pub IsFormulaLeft : Option FormulaLeft → Option (OpenFormula × List Item) → Lists → Type 0
IsFormulaLeft None found lists = found ≡ None
IsFormulaLeft (Some left) found lists = (found ≡ Some (left.formula, left.nodes)) × (lists ≡ left.lists)
