-- What the lists of formulas come to when they end (TeX: The Program, sections 1174 and 1184 to 1186).
use Rattle.std.specs.Prelude.{List, [], ◌∷◌, Option, Some, None, map, Result, Ok, Err}
use Rattle.tx_box.specs.declared.parts.Lists.{Lists}
use Rattle.tx_box.specs.declared.parts.OpenFormula.{OpenFormula}
use Rattle.tx_box.specs.FormulaLists.{FormulaLeft, left_formula}
use Rattle.tx_box.specs.Formulas.{with_more}
use Rattle.tx_mlist.specs.declared.error.MlistError.{MlistError}
use Rattle.tx_mlist.specs.declared.kinds.Place.{Place}
use Rattle.tx_mlist.specs.Building.{finished, grouped, inner}
use Rattle.tx_mlist.specs.Items.{MathItem, material}
use Rattle.tx_seen.specs.declared.error.TexError.{TexError}
use Rattle.tx_seen.specs.declared.error.TexError.TheVariants.{ExtraGroupEnd}
use Rattle.tx_formula.specs.Atoms.{and_around}
use Rattle.tx_formula.specs.Errors.{list_error}

-- what comes of a list
abbrev pub given : {A : Type 0} → Result A MlistError → Result A TexError
given (Err error) = Err (list_error error)
given (Ok made) = Ok made

-- with the lists around it
abbrev pub beside : {A : Type 0} → Lists → Result A TexError → Result (A × Lists) TexError
beside lists (Err error) = Err error
beside lists (Ok made) = Ok (made, lists)

-- the innermost formula ends: its noads, and the nodes behind them, below those that stand above the line of a fraction
abbrev pub whole_list : OpenFormula → Result (List MathItem) TexError
whole_list formula = given (finished formula.above formula.noads)

abbrev pub ended_by : Option FormulaLeft → Result (List MathItem × Lists) TexError
ended_by None = Err ExtraGroupEnd
ended_by (Some left) = beside left.lists (whole_list (with_more (map material left.nodes) left.formula))

abbrev pub ended_list : Lists → Result (List MathItem × Lists) TexError
ended_list lists = ended_by (left_formula lists)

-- as a group it gives a part of the last atom of the formula around it, or takes the place of this atom
abbrev pub formula_with : OpenFormula → Result (List MathItem) TexError → Result OpenFormula TexError
formula_with formula (Err error) = Err error
formula_with formula (Ok noads) = Ok (record formula { noads = noads })

abbrev pub formula_grouped : Place → List MathItem → OpenFormula → Result OpenFormula TexError
formula_grouped place group formula = formula_with formula (given (grouped place group formula.noads))

abbrev pub first_grouped : Place → List MathItem → List OpenFormula → Result (List OpenFormula) TexError
first_grouped place group [] = Ok []
first_grouped place group (formula ∷ around) = and_around around (formula_grouped place group formula)

abbrev pub lists_with : Lists → Result (List OpenFormula) TexError → Result Lists TexError
lists_with lists (Err error) = Err error
lists_with lists (Ok formulas) = Ok (record lists { formulas = formulas })

abbrev pub group_by : Place → Result (List MathItem × Lists) TexError → Result Lists TexError
group_by place (Err error) = Err error
group_by place (Ok ended) = lists_with ended.1 (first_grouped place ended.0 ended.1.formulas)

abbrev pub ended_group : Place → Lists → Result Lists TexError
ended_group place lists = group_by place (ended_list lists)

-- as a list of \mathchoice
abbrev pub inner_by : Result (List MathItem × Lists) TexError → Result (List MathItem × Lists) TexError
inner_by (Err error) = Err error
inner_by (Ok ended) = beside ended.1 (given (inner ended.0))

abbrev pub ended_inner : Lists → Result (List MathItem × Lists) TexError
ended_inner lists = inner_by (ended_list lists)
