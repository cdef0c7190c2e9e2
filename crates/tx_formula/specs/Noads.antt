-- Noads join the formula that is being built, or change the last of it (TeX: The Program, sections 1150 to 1181).
use Rattle.std.specs.Prelude.{List, [], ◌∷◌}
use Rattle.tx_box.specs.declared.parts.Lists.{Lists}
use Rattle.tx_box.specs.declared.parts.OpenFormula.{OpenFormula}
use Rattle.tx_box.specs.Formulas.{with_first, with_noad}
use Rattle.tx_mlist.specs.Items.{MathItem}
use Rattle.tx_state.specs.State.{TexState}
use Rattle.tx_state.specs.Outcomes.{Outcome, leaves}

-- the noads of the innermost formula
abbrev pub noads_of : List OpenFormula → List MathItem
noads_of [] = []
noads_of (formula ∷ around) = formula.noads

-- another list of them
abbrev pub with_noads : (List MathItem → List MathItem) → OpenFormula → OpenFormula
with_noads change formula = record formula { noads = change formula.noads }

abbrev pub changed : (List MathItem → List MathItem) → Lists → Lists
changed change lists = record lists { formulas = with_first (with_noads change) lists.formulas }

-- one noad more
abbrev pub noad_added : TexState → MathItem → TexState
noad_added s item = record s { lists = with_noad item s.lists }

abbrev pub adding_noad : TexState → MathItem → Outcome
adding_noad s item = leaves (noad_added s item)
