-- What the lists of a display come to when it ends (TeX: The Program, sections 1194 and 1199 to 1206).
use Rattle.std.specs.Prelude.{◌≡◌, ℕ, ℤ, false, List, [], ◌∷◌, ◌++◌, Option, Some, None, Result, Ok, Err}
use Rattle.tx_box.specs.declared.parts.Lists.{Lists}
use Rattle.tx_box.specs.Building.{across}
use Rattle.tx_box.specs.Placing.{leading_of, with_list}
use Rattle.tx_display.specs.declared.error.DisplayError.{DisplayError}
use Rattle.tx_display.specs.declared.types.DisplayParams.{DisplayParams}
use Rattle.tx_display.specs.declared.types.DisplayPlace.{DisplayPlace}
use Rattle.tx_display.specs.declared.types.EquationNumber.{EquationNumber}
use Rattle.tx_display.specs.Displays.{Displayed, displayed, number_of}
use Rattle.tx_eqtb.specs.declared.table.Table.{Table}
use Rattle.tx_eqtb.specs.Table.{glue_at, number_at}
use Rattle.tx_math.specs.declared.formula.Formula.{Formula}
use Rattle.tx_mlist.specs.Items.{MathItem}
use Rattle.tx_nest.specs.declared.list.ModeList.{ModeList}
use Rattle.tx_nest.specs.Grafs.{raised_graf}
use Rattle.tx_nest.specs.States.{begun}
use Rattle.tx_node.specs.Items.{Item}
use Rattle.tx_par.specs.declared.line.Line.{Line}
use Rattle.tx_par.specs.LineLists.{line_of}
use Rattle.tx_prim.specs.declared.dimension.DimensionParameter.TheVariants.{Displayindent, Displaywidth, Predisplaysize}
use Rattle.tx_prim.specs.declared.family.MathSize.TheVariants.{Text}
use Rattle.tx_prim.specs.declared.family.NumberSide.{NumberSide}
use Rattle.tx_prim.specs.declared.glue.GlueParameter.TheVariants.{Abovedisplayshortskip, Abovedisplayskip, Belowdisplayshortskip, Belowdisplayskip}
use Rattle.tx_prim.specs.declared.integer.IntegerParameter.TheVariants.{Postdisplaypenalty, Predisplaypenalty}
use Rattle.tx_prim.specs.declared.modes.Mode.TheVariants as mode
use Rattle.tx_seen.specs.declared.error.TexError.{TexError}
use Rattle.tx_seen.specs.declared.error.TexError.TheVariants.{SizeOutOfRange}
use Rattle.tx_seen.specs.declared.place.Place.TheVariants.{Dimension, Glue, Integer}
use Rattle.tx_tfm.specs.declared.state.FontState.{FontState}
use Rattle.tx_tfm.specs.Fonts.{font_parameter}
use Rattle.tx_formula.specs.declared.display_lists.Numbered.{Numbered}
use Rattle.tx_formula.specs.Errors.{display_error}
use Rattle.tx_formula.specs.Lists.{beside, ended_list}
use Rattle.tx_formula.specs.Params.{font_at}
use Rattle.tx_formula.specs.Shifts.{ended_text, set_beside, set_in_style}

-- what a display is set by, as the table has it where it ends; the quad is that of the symbol font of text size
abbrev pub place_of : Table → DisplayPlace
place_of table = record {
  size = number_at table (Dimension Predisplaysize);
  width = number_at table (Dimension Displaywidth);
  indent = number_at table (Dimension Displayindent);
}

abbrev pub symbol_quad : List FontState → Table → ℤ
symbol_quad fonts table = font_parameter fonts (font_at table Text 2) 6

abbrev pub display_params : List FontState → Table → DisplayParams
display_params fonts table = record {
  place = place_of table;
  pre_penalty = number_at table (Integer Predisplaypenalty);
  post_penalty = number_at table (Integer Postdisplaypenalty);
  above_skip = glue_at table (Glue Abovedisplayskip);
  above_short_skip = glue_at table (Glue Abovedisplayshortskip);
  below_skip = glue_at table (Glue Belowdisplayskip);
  below_short_skip = glue_at table (Glue Belowdisplayshortskip);
  leading = leading_of table;
  packing = across table;
  quad = symbol_quad fonts table;
}

-- the formula of \eqno and \leqno ends: its list, in text style, is in a box of its natural size
abbrev pub number_told : List ℕ → Result EquationNumber DisplayError → Result Numbered TexError
number_told report (Err error) = Err (display_error error)
number_told report (Ok number) = Ok (record { number = number; report = report })

abbrev pub number_made : Table → NumberSide → Formula → Result Numbered TexError
number_made table side formula = number_told formula.report (number_of side (across table) formula.nodes)

abbrev pub number_by : Table → NumberSide → Result (Formula × Lists) TexError → Result (Numbered × Lists) TexError
number_by table side (Err error) = Err error
number_by table side (Ok ended) = beside ended.1 (number_made table side ended.0)

abbrev pub ended_number : List FontState → Table → NumberSide → Lists → Result (Numbered × Lists) TexError
ended_number fonts table side lists = number_by table side (ended_text fonts table lists)

-- the formula of a display ends, in display style, in which no line is broken
abbrev pub display_by : List FontState → Table → Result (List MathItem × Lists) TexError → Result (Formula × Lists) TexError
display_by fonts table (Err error) = Err error
display_by fonts table (Ok ended) = set_beside ended.1 (set_in_style fonts table 0 false ended.0)

abbrev pub ended_display : List FontState → Table → Lists → Result (Formula × Lists) TexError
ended_display fonts table lists = display_by fonts table (ended_list lists)

-- it stands at the end of the vertical list around, with its number; marks, insertions and what \vadjust took leave its box; and
-- \badness is how bad the box is that was packed last
abbrev pub displayed_in : Lists → Result Displayed DisplayError → Result (List ℕ × Lists) TexError
displayed_in lists (Err error) = Err (display_error error)
displayed_in lists (Ok d) = Ok (d.report, record (with_list lists d.list) { badness = d.badness })

abbrev pub appended : DisplayParams → Option EquationNumber → Line → Lists → Result (List ℕ × Lists) TexError
appended params number line lists = displayed_in lists (displayed params number line.own line.behind lists.nest.innermost)

-- the paragraph goes on behind it, as if it were three lines, if those can be counted
abbrev pub going_on : ℕ → ModeList
going_on graf = record { state = begun mode.Horizontal; nodes = []; prev_graf = graf }

abbrev pub gone_on : Lists → Option ℕ → Result Lists TexError
gone_on lists None = Err SizeOutOfRange
gone_on lists (Some graf) = Ok (record lists { nest = record { innermost = going_on graf; around = lists.nest.innermost ∷ lists.nest.around } })

abbrev pub paragraph_on : Lists → Result Lists TexError
paragraph_on lists = gone_on lists (raised_graf lists.nest.innermost.prev_graf 3)

-- what the transcript gets as a display ends, and the lists behind it
pub record Shown : Type 0 where
  pub told : List ℕ
  pub lists : Result Lists TexError

-- so it is, where the transcript was this before
pub record IsShown (made : Shown) (before after : List ℕ) (left : Result Lists TexError) : Type 0 where
  pub lists_are : made.lists ≡ left
  pub said_is : after ≡ before ++ made.told

-- an error before anything is told
abbrev pub refused : TexError → Shown
refused error = record { told = []; lists = Err error }

-- the display stands there, and the paragraph goes on behind it
abbrev pub on_behind : List ℕ → Result Lists TexError → Shown
on_behind report (Err error) = refused error
on_behind report (Ok lists) = record { told = report; lists = Ok lists }

abbrev pub shown_by : Result (List ℕ × Lists) TexError → Shown
shown_by (Err error) = refused error
shown_by (Ok made) = on_behind made.0 (paragraph_on made.1)

abbrev pub shown : List FontState → Table → Option EquationNumber → List Item → Lists → Shown
shown fonts table number nodes lists = shown_by (appended (display_params fonts table) number (line_of nodes) lists)

-- the same behind what was told of the formula, which stays told
abbrev pub telling : List ℕ → Shown → Shown
telling report made = record { told = report ++ made.told; lists = made.lists }

abbrev pub finished_by : List FontState → Table → Option EquationNumber → Result (Formula × Lists) TexError → Shown
finished_by fonts table number (Err error) = refused error
finished_by fonts table number (Ok ended) = telling ended.0.report (shown fonts table number ended.0.nodes ended.1)

abbrev pub finished : List FontState → Table → Option EquationNumber → Lists → Shown
finished fonts table number lists = finished_by fonts table number (ended_display fonts table lists)
