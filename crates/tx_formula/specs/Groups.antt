-- Groups of formulas begin and end (TeX: The Program, sections 1136, 1150, 1153, 1174 and 1186).
use Rattle.std.specs.Prelude.{List, [], Option, Some, None, Result, Ok, Err}
use Rattle.tx_box.specs.declared.parts.Lists.{Lists}
use Rattle.tx_box.specs.FormulaLists.{with_formula}
use Rattle.tx_command.specs.declared.types.Head.{Head}
use Rattle.tx_command.specs.declared.types.Head.TheVariants.{Fresh, Opening}
use Rattle.tx_eqtb.specs.declared.groups.GroupKind.{GroupKind}
use Rattle.tx_eqtb.specs.declared.groups.GroupKind.TheVariants.{MathPart}
use Rattle.tx_mlist.specs.declared.kinds.AtomKind.TheVariants.{Ord}
use Rattle.tx_mlist.specs.Building.{bare}
use Rattle.tx_mlist.specs.Choices.{chosen}
use Rattle.tx_mlist.specs.Items.{MathItem}
use Rattle.tx_nest.specs.States.{mode_of}
use Rattle.tx_prim.specs.declared.family.AtomPart.{AtomPart}
use Rattle.tx_prim.specs.declared.family.AtomPart.TheVariants.{Nucleus}
use Rattle.tx_prim.specs.declared.family.MathStyle.{MathStyle}
use Rattle.tx_prim.specs.declared.family.MathStyle.TheVariants.{Display, Text, Script, ScriptScript}
use Rattle.tx_prim.specs.declared.modes.Mode.TheVariants.{Math}
use Rattle.tx_seen.specs.declared.error.TexError.{TexError}
use Rattle.tx_shape.specs.declared.types.Opener.TheVariants.{Choice}
use Rattle.tx_state.specs.Groups.{closing, opening}
use Rattle.tx_state.specs.State.{TexState}
use Rattle.tx_state.specs.Outcomes.{Outcome, fails, leaves}
use Rattle.tx_formula.specs.Kinds.{place_of}
use Rattle.tx_formula.specs.Lists.{ended_group, ended_inner}
use Rattle.tx_formula.specs.Noads.{changed, noad_added}

-- a formula begins in the list that is being built, in a group of this kind
abbrev pub begun : TexState → TexState
begun s = record s { lists = with_formula s.lists; mode = Math; head = Fresh; taken = [] }

abbrev pub opening_formula : TexState → GroupKind → Outcome
opening_formula s kind = opening s kind (begun s)

-- a begin-group token: the list is the part that is awaited, or else the nucleus of an Ord
abbrev pub grouping : TexState → Option AtomPart → Outcome
grouping s (Some p) = opening_formula s (MathPart p)
grouping s None = opening_formula (noad_added s (bare Ord)) (MathPart Nucleus)

-- the group of a list ends, and the list around it goes on
abbrev pub behind_formula : TexState → Lists → TexState
behind_formula s lists = closing (record s { lists = lists; mode = mode_of lists.nest.innermost.state; taken = [] })

-- it gives a part of an atom
abbrev pub part_given : TexState → Result Lists TexError → Outcome
part_given s (Err error) = fails error
part_given s (Ok lists) = leaves (behind_formula s lists)

abbrev pub ending_part : TexState → AtomPart → Outcome
ending_part s p = part_given s (ended_group (place_of p) s.lists)

-- or a list of \mathchoice, behind which the next one is to follow
abbrev pub head_behind : MathStyle → Head
head_behind Display = Opening (Choice Text)
head_behind Text = Opening (Choice Script)
head_behind Script = Opening (Choice ScriptScript)
head_behind ScriptScript = Fresh

abbrev pub with_choice : TexState → MathStyle → List MathItem → Lists → TexState
with_choice s style list lists = record (behind_formula s (changed (chosen style list) lists)) { head = head_behind style }

abbrev pub choice_given : TexState → MathStyle → Result (List MathItem × Lists) TexError → Outcome
choice_given s style (Err error) = fails error
choice_given s style (Ok ended) = leaves (with_choice s style ended.0 ended.1)

abbrev pub ending_choice : TexState → MathStyle → Outcome
ending_choice s style = choice_given s style (ended_inner s.lists)
