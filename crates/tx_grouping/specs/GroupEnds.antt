-- What ends a group, by its kind (TeX: The Program, sections 1026, 1063 to 1068, 1100 and 1133).
use Rattle.std.specs.Prelude.{ℕ, Bool, List, ◌++◌, Option, Some, None, Result, Ok, Err, if◌then◌else◌}
use Rattle.tx_eqtb.specs.declared.groups.GroupKind.{GroupKind}
use Rattle.tx_eqtb.specs.declared.groups.GroupKind.TheVariants as kind
use Rattle.tx_grouping.specs.ListEnds.{ending_box, ending_break, ending_insert, ending_output}
use Rattle.tx_grouping.specs.Paragraphs.{hyphenating}
use Rattle.tx_makeup.specs.Markers.{is_marker}
use Rattle.tx_par.specs.declared.error.ParError.{ParError}
use Rattle.tx_paragraph.specs.Ending as paragraph
use Rattle.tx_pending.specs.Elements.{Step, step}
use Rattle.tx_seen.specs.declared.error.TexError.TheVariants.{ExtraGroupEnd, MisplacedAlignment, UnbalancedOutput}
use Rattle.tx_state.specs.Groups.{closing}
use Rattle.tx_state.specs.Outcomes.{Outcome, Asks, Leaves, Ships, Fails, Ends, fails, leaves}
use Rattle.tx_state.specs.Standing.{before_row}
use Rattle.tx_state.specs.State.{TexState}

-- what a turn has told stays told, also where the rest of it ends the run by an error; behind a paragraph in a list that ends nothing is
-- asked or shipped, and no run ends otherwise
abbrev pub telling : List ℕ → Outcome → Outcome
telling report (Leaves s said) = Leaves s (report ++ said)
telling report (Asks ask s) = Asks ask s
telling report (Ships page s) = Ships page s
telling report (Fails error said) = Fails error (report ++ said)
telling report Ends = Ends

-- what comes next of the input, and what is left then
abbrev pub next_of : TexState → Step
next_of s = step s.table.table.categories s.reader.input

abbrev pub is_at_marker : TexState → Bool
is_at_marker s = is_marker (next_of s).next

abbrev pub without_marker : TexState → TexState
without_marker s = record s { reader = record s.reader { input = (next_of s).left } }

-- the end of a list in which a paragraph may be open, by the kind of its group: that of an \insert, of \output, of the material of
-- \noalign, behind which rows are read again (section 1133), or of a vertical box
abbrev pub list_ending : GroupKind → TexState → Outcome
list_ending (kind.Insert class) s = ending_insert s class
list_ending kind.Output s = ending_output s
list_ending kind.NoAlign s = leaves (before_row (closing s))
list_ending other s = ending_box s

-- that paragraph ends before (section 1100)
abbrev pub behind_left : GroupKind → TexState → Result paragraph.Left ParError → Outcome
behind_left group s (Err error) = fails (paragraph.par_error error)
behind_left group s (Ok left) = telling left.report (list_ending group (record s { lists = left.lists; hyphenation = left.known; table = left.table }))

abbrev pub behind_paragraph : GroupKind → TexState → Outcome
behind_paragraph group s = behind_left group s (paragraph.closing (hyphenating s) s.lists s.table)

-- \output's group has to end where its tokens end (sections 1026 and 1027)
abbrev pub outputting : TexState → Outcome
outputting s = if is_at_marker s then behind_paragraph kind.Output (without_marker s) else fails UnbalancedOutput

-- what an end-group token does, by the kind of the innermost group; a group of a formula isn't one of boxes, and a row of an alignment
-- isn't to end before its \cr (section 1132)
abbrev pub ending : TexState → Option GroupKind → Outcome
ending s None = fails ExtraGroupEnd
ending s (Some kind.SemiSimple) = fails ExtraGroupEnd
ending s (Some kind.Simple) = leaves (closing s)
ending s (Some kind.HorizontalBox) = ending_box s
ending s (Some kind.VerticalBox) = behind_paragraph kind.VerticalBox s
ending s (Some kind.TopBox) = behind_paragraph kind.TopBox s
ending s (Some (kind.Discretionary text)) = ending_break s text
ending s (Some kind.MathShift) = fails ExtraGroupEnd
ending s (Some kind.Display) = fails ExtraGroupEnd
ending s (Some (kind.EquationNumber side)) = fails ExtraGroupEnd
ending s (Some (kind.MathPart part)) = fails ExtraGroupEnd
ending s (Some (kind.MathChoice style)) = fails ExtraGroupEnd
ending s (Some (kind.MathLeft left)) = fails ExtraGroupEnd
ending s (Some (kind.Insert class)) = behind_paragraph (kind.Insert class) s
ending s (Some kind.Output) = outputting s
ending s (Some kind.NoAlign) = behind_paragraph kind.NoAlign s
ending s (Some kind.Entry) = fails MisplacedAlignment
ending s (Some kind.Align) = fails ExtraGroupEnd

-- what \endgroup does
abbrev pub ending_semi_simple : TexState → Option GroupKind → Outcome
ending_semi_simple s (Some kind.SemiSimple) = leaves (closing s)
ending_semi_simple s other = fails ExtraGroupEnd
