-- Entries begin and end (TeX: The Program, sections 786 to 799, and 1131).
use Rattle.std.specs.Prelude.{pos, nat_lt, length, Bool, true, false, List, [], ◌∷◌, Option, Some, Result, Ok, Err, if◌then◌else◌}
use Rattle.tx_align.specs.declared.error.AlignError.{AlignError}
use Rattle.tx_box.specs.Placing.{leading_of}
use Rattle.tx_command.specs.declared.types.Head.TheVariants.{Entry, Fresh}
use Rattle.tx_command.specs.Commands.{is_row}
use Rattle.tx_eqtb.specs.declared.groups.GroupKind.{GroupKind}
use Rattle.tx_eqtb.specs.declared.groups.GroupKind.TheVariants as group
use Rattle.tx_eqtb.specs.Stack.{kind_of, opened}
use Rattle.tx_expand.specs.Turns.{with_input}
use Rattle.tx_pending.specs.declared.next.ColumnPart.{ColumnPart}
use Rattle.tx_pending.specs.declared.next.ColumnPart.TheVariants.{U, V}
use Rattle.tx_pending.specs.Elements.{outside, with_list, with_part_end}
use Rattle.tx_prim.specs.declared.family.EntryEnd.{EntryEnd}
use Rattle.tx_prim.specs.declared.family.EntryEnd.TheVariants as end
use Rattle.tx_seen.specs.declared.error.TexError.TheVariants.{ExtraGroupEnd, MisplacedAlignment, TooManyGroups}
use Rattle.tx_state.specs.Groups.{closing}
use Rattle.tx_state.specs.Outcomes.{Outcome, fails, leaves}
use Rattle.tx_state.specs.Standing.{at_level, before_row, in_mode}
use Rattle.tx_state.specs.State.{TexState}
use Rattle.tx_tabular.specs.declared.alignment.Alignment.{Alignment}
use Rattle.tx_tabular.specs.Alignments.{Laid, Laying}
use Rattle.tx_tabular.specs.Entries.{advancing, beginning_entry, celling, ended_by, ending_of, part_of, rowing, spanning}
use Rattle.tx_tabular.specs.Lists.{entering}
use Rattle.tx_tabular.specs.Rows.{ending_row}
use Rattle.tx_aligning.specs.Preambles.{error_of, popped, with_everycr, with_innermost}

-- the lists and the innermost alignment are these
abbrev pub with_laid : TexState → Laid → List Alignment → TexState
with_laid s laid outer = with_innermost (record s { lists = laid.lists }) laid.alignment outer

-- the u- or the v-part of its column is read next, up to its end
abbrev pub with_part : ColumnPart → Alignment → TexState → TexState
with_part part a s = record s { reader = with_input (with_list (with_part_end s.reader.input part) (part_of part a) false) s.reader }

-- an entry's own text begins at level 0: at once behind \omit, else where its column's u-part ends (section 788)
abbrev pub entered_by : Bool → Alignment → TexState → TexState
entered_by true a s = record s { reader = at_level (pos 0) s.reader }
entered_by false a s = with_part U a s

abbrev pub entry_begun : TexState → Bool → Alignment → List Alignment → TexState
entry_begun s omitted a outer = entered_by omitted a (record (in_mode (with_innermost s a outer)) { head = Fresh })

abbrev pub begun_in : TexState → Bool → List Alignment → Laying → Outcome
begun_in s omitted outer (Err error) = fails (error_of error)
begun_in s omitted outer (Ok laid) = leaves (entry_begun (record s { lists = laid.lists }) omitted (beginning_entry omitted laid.alignment) outer)

-- the first entry of a row begins this
abbrev pub laid_for : TexState → Alignment → Laying
laid_for s a = if is_row s.head then rowing s.lists a else Ok (record { lists = s.lists; alignment = a })

abbrev pub entry_in : TexState → Bool → List Alignment → Outcome
entry_in s omitted [] = fails MisplacedAlignment
entry_in s omitted (a ∷ outer) = begun_in (popped s outer) omitted outer (laid_for (popped s outer) a)

abbrev pub beginning : TexState → Bool → Outcome
beginning s omitted = entry_in s omitted s.alignments

-- a word ends an entry: what its column has behind it is read in the word's place (section 789)
abbrev pub ends_in : TexState → EntryEnd → List Alignment → Outcome
ends_in s word [] = fails MisplacedAlignment
ends_in s word (a ∷ outer) =
    let t : TexState = with_part V (ended_by word a) (with_innermost s (ended_by word a) outer) in
    leaves (record t { reader = at_level outside t.reader })

abbrev pub ending : TexState → EntryEnd → Outcome
ending s word = ends_in s word s.alignments

-- behind that the next entry is to come
abbrev pub before_entry : TexState → TexState
before_entry s = record (in_mode s) { head = Entry; reader = at_level outside s.reader }

abbrev pub awaiting : TexState → Alignment → List Alignment → Outcome
awaiting s a outer = leaves (before_entry (with_innermost s a outer))

abbrev pub advanced : TexState → Alignment → List Alignment → Outcome
advanced s a outer = awaiting (record s { lists = entering s.lists }) (advancing a) outer

-- a row has ended
abbrev pub row_over : TexState → List Alignment → Laying → Outcome
row_over s outer (Err error) = fails (error_of error)
row_over s outer (Ok laid) = leaves (before_row (with_everycr (with_laid s laid outer)))

abbrev pub row_ending : TexState → Alignment → List Alignment → Outcome
row_ending s a outer = row_over s outer (ending_row (leading_of s.table.table) s.lists a)

-- by what ended its last entry, whose list has ended
abbrev pub cell_over : TexState → EntryEnd → Alignment → List Alignment → Outcome
cell_over s end.Tab a outer = advanced s a outer
cell_over s end.Span a outer = advanced s a outer
cell_over s end.Cr a outer = row_ending s a outer
cell_over s end.CrCr a outer = row_ending s a outer

abbrev pub celled : TexState → EntryEnd → List Alignment → Laying → Outcome
celled s word outer (Err error) = fails (error_of error)
celled s word outer (Ok laid) = cell_over (record s { lists = laid.lists }) word laid.alignment outer

-- each entry has a group of its own (section 791)
abbrev pub in_group : TexState → EntryEnd → Alignment → List Alignment → Outcome
in_group s word a outer = celled s word outer (celling s.lists a)

abbrev pub regrouped : TexState → EntryEnd → Alignment → List Alignment → Outcome
regrouped s word a outer =
    if nat_lt (length (closing s).table.groups) 255
    then in_group (record (closing s) { table = opened (closing s).table group.Entry }) word a outer
    else fails TooManyGroups

-- \span joins entries, which go on in one list and one group
abbrev pub over_by : TexState → Alignment → List Alignment → Result EntryEnd AlignError → Outcome
over_by s a outer (Err error) = fails (error_of error)
over_by s a outer (Ok end.Span) = awaiting s (spanning a) outer
over_by s a outer (Ok word) = regrouped s word a outer

abbrev pub over_in : TexState → List Alignment → Outcome
over_in s [] = fails MisplacedAlignment
over_in s (a ∷ outer) = over_by (popped s outer) a outer (ending_of a)

-- the v-part of an entry is read to its end: no group of its own may be open in it (section 1131)
abbrev pub over_with : TexState → Option GroupKind → Outcome
over_with s (Some group.Entry) = over_in s s.alignments
over_with s other = fails ExtraGroupEnd

abbrev pub over : TexState → Outcome
over s = over_with s (kind_of s.table)
