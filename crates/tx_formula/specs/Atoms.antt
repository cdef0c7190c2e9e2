-- Atoms, scripts, limits, styles, choices and fractions begin (TeX: The Program, sections 1156 to 1183).
use Rattle.std.specs.Prelude.{List, [], ◌∷◌, Option, Some, None, Result, Ok, Err, if◌then◌else◌}
use Rattle.tx_box.specs.declared.parts.Lists.{Lists}
use Rattle.tx_box.specs.declared.parts.OpenFormula.{OpenFormula}
use Rattle.tx_box.specs.Formulas.{settled}
use Rattle.tx_command.specs.declared.types.Head.TheVariants.{Opening, Part}
use Rattle.tx_mlist.specs.declared.above.Above.{Above}
use Rattle.tx_mlist.specs.declared.error.MlistError.{MlistError}
use Rattle.tx_mlist.specs.declared.kinds.AtomKind.{AtomKind}
use Rattle.tx_mlist.specs.declared.kinds.FractionHead.{FractionHead}
use Rattle.tx_mlist.specs.declared.kinds.Limits.{Limits}
use Rattle.tx_mlist.specs.Building.{bare, ends_with_operator, for_script, inner, is_second, limited}
use Rattle.tx_mlist.specs.Choices.{no_choice}
use Rattle.tx_mlist.specs.Items.{MathItem}
use Rattle.tx_prim.specs.declared.family.AtomClass.{AtomClass}
use Rattle.tx_prim.specs.declared.family.AtomPart.{AtomPart}
use Rattle.tx_prim.specs.declared.family.AtomPart.TheVariants as part
use Rattle.tx_prim.specs.declared.family.LimitsKind.{LimitsKind}
use Rattle.tx_prim.specs.declared.family.MathStyle.TheVariants as style
use Rattle.tx_seen.specs.declared.error.TexError.{TexError}
use Rattle.tx_seen.specs.declared.error.TexError.TheVariants.{BadFormula}
use Rattle.tx_shape.specs.declared.types.Opener.TheVariants.{Choice}
use Rattle.tx_state.specs.State.{TexState}
use Rattle.tx_state.specs.Outcomes.{Outcome, fails, leaves}
use Rattle.tx_formula.specs.Errors.{list_error}
use Rattle.tx_formula.specs.Kinds.{kind_from, limits_of, place_of}
use Rattle.tx_formula.specs.Noads.{changed, noad_added, noads_of}

-- an atom, whose nucleus is to follow
abbrev pub atom_begun : TexState → AtomKind → Outcome
atom_begun s kind = leaves (record (noad_added s (bare kind)) { head = Part part.Nucleus })

-- \mathord and its kin (section 1158)
abbrev pub beginning_atom : TexState → AtomClass → Outcome
beginning_atom s class = atom_begun s (kind_from class)

-- `^' and `_': a script is to follow, unless the atom before has one there (sections 1176 and 1177)
abbrev pub scripting_in : TexState → AtomPart → Lists → Outcome
scripting_in s p lists =
    if is_second (place_of p) (noads_of lists.formulas) then fails BadFormula
    else leaves (record s { head = Part p; lists = changed for_script lists })

abbrev pub scripting : TexState → AtomPart → Outcome
scripting s p = scripting_in s p (settled s.lists)

-- \limits and its kin, which a large operator stands before (section 1159)
abbrev pub limiting_in : TexState → Limits → Lists → Outcome
limiting_in s limits lists =
    if ends_with_operator (noads_of lists.formulas) then leaves (record s { lists = changed (limited limits) lists }) else fails BadFormula

abbrev pub limiting : TexState → LimitsKind → Outcome
limiting s kind = limiting_in s (limits_of kind) (settled s.lists)

-- \mathchoice, whose lists are to follow (section 1172)
abbrev pub beginning_choice : TexState → Outcome
beginning_choice s = leaves (record (noad_added s no_choice) { head = Opening (Choice style.Display) })

-- \over and its kin: all that the formula has stands above the line of a fraction, unless it has one already (sections 1181 to 1183)
abbrev pub lined : FractionHead → Result (List MathItem) MlistError → Result OpenFormula TexError
lined head (Err error) = Err (list_error error)
lined head (Ok list) = Ok (record { noads = []; above = Some (record { head = head; numerator = list }) })

abbrev pub divided_by : FractionHead → List MathItem → Option Above → Result OpenFormula TexError
divided_by head noads (Some above) = Err BadFormula
divided_by head noads None = lined head (inner noads)

abbrev pub divided : FractionHead → OpenFormula → Result OpenFormula TexError
divided head formula = divided_by head formula.noads formula.above

abbrev pub and_around : List OpenFormula → Result OpenFormula TexError → Result (List OpenFormula) TexError
and_around around (Err error) = Err error
and_around around (Ok formula) = Ok (formula ∷ around)

abbrev pub first_divided : FractionHead → List OpenFormula → Result (List OpenFormula) TexError
first_divided head [] = Err BadFormula
first_divided head (formula ∷ around) = and_around around (divided head formula)

abbrev pub with_formulas : TexState → Lists → Result (List OpenFormula) TexError → Outcome
with_formulas s lists (Err error) = fails error
with_formulas s lists (Ok formulas) = leaves (record s { lists = record lists { formulas = formulas } })

abbrev pub dividing : TexState → FractionHead → Outcome
dividing s head = with_formulas s (settled s.lists) (first_divided head (settled s.lists).formulas)
