-- Formulas in a text begin and end (TeX: The Program, sections 1138, 1139 and 1193 to 1196).
use Rattle.std.specs.Prelude.{ℕ, ℤ, pos, neg_ℤ, nat_lt, Bool, true, false, List, [], ◌∷◌, length, Option, Some, Result, Ok, Err, if◌then◌else◌}
use Rattle.tx_box.specs.declared.parts.Lists.{Lists}
use Rattle.tx_box.specs.Placing.{with_list}
use Rattle.tx_box.specs.Sources.{appended}
use Rattle.tx_command.specs.declared.types.Head.TheVariants.{SecondShift, Shift}
use Rattle.tx_eqtb.specs.declared.entry.Entry.TheVariants.{Number}
use Rattle.tx_eqtb.specs.declared.eqtb.Eqtb.{Eqtb}
use Rattle.tx_eqtb.specs.declared.groups.GroupKind.{GroupKind}
use Rattle.tx_eqtb.specs.declared.groups.GroupKind.TheVariants.{Display, EquationNumber, MathShift}
use Rattle.tx_eqtb.specs.declared.table.Table.{Table}
use Rattle.tx_eqtb.specs.Stack.{assigned, kind_of, opened}
use Rattle.tx_eqtb.specs.Table.{number_at, tokens_at}
use Rattle.tx_expand.specs.Turns.{put}
use Rattle.tx_math.specs.declared.error.MathError.{MathError}
use Rattle.tx_math.specs.declared.error.MathError.TheVariants as math
use Rattle.tx_math.specs.declared.formula.Formula.{Formula}
use Rattle.tx_math.specs.Formula.{hlist, math_with}
use Rattle.tx_mlist.specs.Items.{MathItem}
use Rattle.tx_nest.specs.Changed.{with_factor}
use Rattle.tx_nest.specs.declared.state.ModeState.{ModeState}
use Rattle.tx_nest.specs.declared.state.ModeState.TheVariants as state
use Rattle.tx_nest.specs.Factors.{plain_factor}
use Rattle.tx_node.specs.declared.plain.KernKind.{KernKind}
use Rattle.tx_node.specs.declared.plain.KernKind.TheVariants.{MathOff, MathOn}
use Rattle.tx_node.specs.declared.plain.Plain.TheVariants.{Kern}
use Rattle.tx_node.specs.Items.{Item, plain}
use Rattle.tx_num.specs.Limits.{fits}
use Rattle.tx_prim.specs.declared.dimension.DimensionParameter.TheVariants.{Mathsurround, Overfullrule}
use Rattle.tx_prim.specs.declared.integer.IntegerParameter.TheVariants.{Fam}
use Rattle.tx_prim.specs.declared.modes.Mode.{Mode}
use Rattle.tx_prim.specs.declared.modes.Mode.TheVariants as mode
use Rattle.tx_prim.specs.declared.tokens.TokenParameter.TheVariants.{Everymath}
use Rattle.tx_seen.specs.declared.error.TexError.{TexError}
use Rattle.tx_seen.specs.declared.error.TexError.TheVariants.{ExtraGroupEnd, TooManyGroups}
use Rattle.tx_seen.specs.declared.place.Place.TheVariants.{Dimension, Integer, Tokens}
use Rattle.tx_state.specs.State.{TexState}
use Rattle.tx_state.specs.Outcomes.{Outcome, Leaves, fails, leaves}
use Rattle.tx_tfm.specs.declared.state.FontState.{FontState}
use Rattle.tx_formula.specs.Errors.{math_error}
use Rattle.tx_formula.specs.Groups.{begun, behind_formula}
use Rattle.tx_formula.specs.Lists.{ended_list}
use Rattle.tx_formula.specs.Params.{math_params}

-- a formula begins behind its `$', in a group of its own, in which \fam is no family, and what \everymath has is read first
-- (section 1139)
abbrev pub no_family : Eqtb → Eqtb
no_family table = assigned table (Integer Fam) (Number (neg_ℤ (pos 1)))

abbrev pub with_every : TexState → TexState
with_every s = record s { reader = put (tokens_at s.table.table (Tokens Everymath)) s.reader }

abbrev pub begun_text : TexState → TexState
begun_text s = record (begun (with_every s)) { table = no_family s.table }

abbrev pub beginning_in : TexState → GroupKind → Outcome
beginning_in s kind =
    if nat_lt (length s.table.groups) 255 then leaves (begun_text (record s { table = opened s.table kind })) else fails TooManyGroups

abbrev pub beginning_text : TexState → Outcome
beginning_text s = beginning_in s MathShift

-- a list is set in a style, as tx_math numbers them; \overfullrule is a dimension, whatever is assigned
abbrev pub set_in_style : List FontState → Table → ℕ → Bool → List MathItem → Result Formula MathError
set_in_style fonts table style breaks list =
    if fits (number_at table (Dimension Overfullrule)) then hlist (math_with fonts (math_params table)) style breaks list
    else Err math.SizeOutOfRange

-- its list is set in text style; lines may be broken behind its operations and relations in a paragraph alone (section 1196)
abbrev pub is_paragraph : ModeState → Bool
is_paragraph (state.Horizontal factor) = true
is_paragraph other = false

abbrev pub set_list : List FontState → Table → Bool → List MathItem → Result Formula MathError
set_list fonts table breaks list = set_in_style fonts table 2 breaks list

abbrev pub set_beside : Lists → Result Formula MathError → Result (Formula × Lists) TexError
set_beside lists (Err error) = Err (math_error error)
set_beside lists (Ok formula) = Ok (formula, lists)

abbrev pub text_by : List FontState → Table → Result (List MathItem × Lists) TexError → Result (Formula × Lists) TexError
text_by fonts table (Err error) = Err error
text_by fonts table (Ok ended) = set_beside ended.1 (set_list fonts table (is_paragraph ended.1.nest.innermost.state) ended.0)

abbrev pub ended_text : List FontState → Table → Lists → Result (Formula × Lists) TexError
ended_text fonts table lists = text_by fonts table (ended_list lists)

-- it stands in the list between its ends, each as wide as \mathsurround, and the space factor is 1000 behind it
abbrev pub edge : KernKind → ℤ → Item
edge kind surround = plain (Kern kind surround)

abbrev pub factored : Lists → Lists
factored lists = with_list lists (with_factor lists.nest.innermost plain_factor)

abbrev pub with_text : Lists → ℤ → List Item → Lists
with_text lists surround nodes =
    factored (appended (appended (appended lists (edge MathOn surround ∷ [])) nodes) (edge MathOff surround ∷ []))

abbrev pub surround_in : TexState → ℤ
surround_in s = number_at s.table.table (Dimension Mathsurround)

abbrev pub text_put : TexState → Formula → Lists → Outcome
text_put s formula lists = Leaves (behind_formula s (with_text lists (surround_in s) formula.nodes)) formula.report

abbrev pub text_given : TexState → Result (Formula × Lists) TexError → Outcome
text_given s (Err error) = fails error
text_given s (Ok ended) = text_put s ended.0 ended.1

abbrev pub ending_text : TexState → Outcome
ending_text s = text_given s (ended_text s.words.fonts s.table.table s.lists)

-- a `$' in a formula ends it, if its group is the innermost one; behind a displayed one, and behind the number of an equation, a
-- second `$' is to follow (sections 1193 and 1197)
abbrev pub ending_by : TexState → Option GroupKind → Outcome
ending_by s (Some MathShift) = ending_text s
ending_by s (Some Display) = leaves (record s { head = SecondShift })
ending_by s (Some (EquationNumber side)) = leaves (record s { head = SecondShift })
ending_by s other = fails ExtraGroupEnd

-- in another list a formula begins, unless another `$' is read behind it
abbrev pub shifting_in : TexState → Mode → Outcome
shifting_in s mode.Math = ending_by s (kind_of s.table)
shifting_in s mode.DisplayMath = ending_by s (kind_of s.table)
shifting_in s other = leaves (record s { head = Shift })

abbrev pub shifting : TexState → Outcome
shifting s = shifting_in s s.mode
