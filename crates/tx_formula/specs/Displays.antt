-- Displayed formulas begin and end (TeX: The Program, sections 1138, 1140 to 1145, 1194 and 1199 to 1206; The TeXbook, chapters 18, 19
-- and 26).
use Rattle.std.specs.Prelude.{ℕ, nat_lt, List, [], length, Option, Some, None, Result, Ok, Err, if◌then◌else◌}
use Rattle.tx_box.specs.declared.parts.Lists.{Lists}
use Rattle.tx_box.specs.FormulaLists.{with_display}
use Rattle.tx_command.specs.declared.types.Head.TheVariants.{Displayed, Fresh}
use Rattle.tx_display.specs.declared.types.DisplayPlace.{DisplayPlace}
use Rattle.tx_display.specs.declared.types.EquationNumber.{EquationNumber}
use Rattle.tx_eqtb.specs.declared.entry.Entry.TheVariants.{Number}
use Rattle.tx_eqtb.specs.declared.eqtb.Eqtb.{Eqtb}
use Rattle.tx_eqtb.specs.declared.groups.GroupKind.{GroupKind}
use Rattle.tx_eqtb.specs.declared.groups.GroupKind.TheVariants as kind
use Rattle.tx_eqtb.specs.Stack.{assigned, kind_of, opened}
use Rattle.tx_eqtb.specs.Table.{tokens_at}
use Rattle.tx_expand.specs.Turns.{put}
use Rattle.tx_par.specs.declared.error.ParError.{ParError}
use Rattle.tx_paragraph.specs.Ending.{par_error}
use Rattle.tx_paragraph.specs.Hyphens.{Hyphenating}
use Rattle.tx_paragraph.specs.Interrupting.{Cut, interrupting}
use Rattle.tx_prim.specs.declared.dimension.DimensionParameter.TheVariants.{Displayindent, Displaywidth, Predisplaysize}
use Rattle.tx_prim.specs.declared.family.NumberSide.{NumberSide}
use Rattle.tx_prim.specs.declared.modes.Mode.{Mode}
use Rattle.tx_prim.specs.declared.modes.Mode.TheVariants as mode
use Rattle.tx_prim.specs.declared.tokens.TokenParameter.TheVariants.{Everydisplay}
use Rattle.tx_seen.specs.declared.error.TexError.{TexError}
use Rattle.tx_seen.specs.declared.error.TexError.TheVariants.{ExtraGroupEnd, NotAllowed, TooManyGroups}
use Rattle.tx_seen.specs.declared.place.Place.TheVariants.{Dimension, Tokens}
use Rattle.tx_state.specs.Groups.{closing}
use Rattle.tx_state.specs.State.{TexState}
use Rattle.tx_state.specs.Outcomes.{Outcome, Fails, Leaves, fails, leaves}
use Rattle.tx_formula.specs.declared.display_lists.Numbered.{Numbered}
use Rattle.tx_formula.specs.DisplayLists.{Shown, ended_number, finished, telling}
use Rattle.tx_formula.specs.Groups.{behind_formula}
use Rattle.tx_formula.specs.Shifts.{beginning_in, no_family}

-- in a display \fam is no family, and \predisplaysize, \displaywidth and \displayindent tell where it stands; all in its group
abbrev pub placed : Eqtb → DisplayPlace → Eqtb
placed table place =
    assigned (assigned (assigned (no_family table) (Dimension Predisplaysize) (Number place.size)) (Dimension Displaywidth) (Number place.width)) (Dimension Displayindent) (Number place.indent)

-- its list begins, and what \everydisplay has is read first (section 1145)
abbrev pub begun_display : TexState → DisplayPlace → TexState
begun_display s place = record s {
  reader = put (tokens_at s.table.table (Tokens Everydisplay)) s.reader;
  table = placed s.table place;
  lists = with_display s.lists;
  mode = mode.DisplayMath;
  head = Fresh;
  taken = [];
}

abbrev pub opening_display : TexState → List ℕ → DisplayPlace → Outcome
opening_display s report place =
    if nat_lt (length s.table.groups) 255 then Leaves (begun_display (record s { table = opened s.table kind.Display }) place) report
    else Fails TooManyGroups report

-- behind `$$' in a paragraph: the lines so far stand in the list around, and the display begins in a group of its own
abbrev pub hyphenating : TexState → Hyphenating
hyphenating s = record { fonts = s.words.fonts; known = s.hyphenation }

abbrev pub interrupted : TexState → Result Cut ParError → Outcome
interrupted s (Err error) = fails (par_error error)
interrupted s (Ok cut) = opening_display (record s { lists = cut.lists; hyphenation = cut.known }) cut.report cut.place

abbrev pub beginning_display : TexState → Outcome
beginning_display s = interrupted s (interrupting (hyphenating s) s.table.table s.lists)

-- \eqno and \leqno: the formula of the equation's number begins, as in a text, if the display's group is the innermost one (sections
-- 1140 and 1142)
abbrev pub opening_number : TexState → NumberSide → Outcome
opening_number s side = beginning_in s (kind.EquationNumber side)

abbrev pub number_in_group : TexState → NumberSide → Option GroupKind → Outcome
number_in_group s side (Some kind.Display) = opening_number s side
number_in_group s side other = fails ExtraGroupEnd

abbrev pub number_in : TexState → NumberSide → Mode → Outcome
number_in s side mode.DisplayMath = number_in_group s side (kind_of s.table)
number_in s side other = fails NotAllowed

abbrev pub beginning_number : TexState → NumberSide → Outcome
beginning_number s side = number_in s side s.mode

-- a display that is whole stands in the list around, its group ends, and the paragraph goes on, in which one space is skipped; what was
-- told of its formula and of it stays told (section 1200)
abbrev pub left_display : TexState → List ℕ → Lists → Outcome
left_display s report lists = Leaves (record (behind_formula s lists) { head = Displayed }) report

abbrev pub display_given : TexState → List ℕ → Result Lists TexError → Outcome
display_given s report (Err error) = Fails error report
display_given s report (Ok lists) = left_display s report lists

abbrev pub display_shown : TexState → Shown → Outcome
display_shown s shown = display_given s shown.told shown.lists

abbrev pub display_ended : TexState → Option EquationNumber → Outcome
display_ended s number = display_shown s (finished s.words.fonts s.table.table number s.lists)

-- so does the one around the formula of \eqno or \leqno, once the group of that is left, behind what was told of that (section 1194)
abbrev pub number_behind : TexState → Numbered → Option GroupKind → Outcome
number_behind s made (Some kind.Display) = display_shown s (telling made.report (finished s.words.fonts s.table.table (Some made.number) s.lists))
number_behind s made other = Fails ExtraGroupEnd made.report

abbrev pub number_left : TexState → Numbered → Outcome
number_left s made = number_behind s made (kind_of s.table)

abbrev pub number_closed : TexState → Numbered → Lists → Outcome
number_closed s made lists = number_left (closing (record s { lists = lists })) made

abbrev pub number_given : TexState → Result (Numbered × Lists) TexError → Outcome
number_given s (Err error) = fails error
number_given s (Ok ended) = number_closed s ended.0 ended.1

abbrev pub number_ended : TexState → NumberSide → Outcome
number_ended s side = number_given s (ended_number s.words.fonts s.table.table side s.lists)

-- the second `$' at the end of a display, by the innermost group
abbrev pub ending_in : TexState → Option GroupKind → Outcome
ending_in s (Some kind.Display) = display_ended s None
ending_in s (Some (kind.EquationNumber side)) = number_ended s side
ending_in s other = fails ExtraGroupEnd

abbrev pub ending_display : TexState → Outcome
ending_display s = ending_in s (kind_of s.table)

-- the paragraph goes on behind a display, and its skipped space
abbrev pub going_on_behind : TexState → Outcome
going_on_behind s = leaves (record s { head = Fresh })
