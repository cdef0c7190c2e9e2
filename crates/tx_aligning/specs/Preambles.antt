-- Alignments begin, and their preambles are read (TeX: The Program, sections 774 to 785).
use Rattle.std.specs.Prelude.{ℤ, pos, neg_ℤ, Bool, true, false, nat_lt, List, [], ◌∷◌, length, Option, None, Some, Result, Ok, Err, if◌then◌else◌}
use Rattle.std.specs.Ordering.{int_eq}
use Rattle.tx_char.specs.declared.category.Cat.TheVariants as category
use Rattle.tx_align.specs.declared.error.AlignError.{AlignError}
use Rattle.tx_align.specs.declared.error.AlignError.TheVariants as align
use Rattle.tx_align.specs.declared.part.Part.{Part}
use Rattle.tx_align.specs.declared.part.Part.TheVariants as part
use Rattle.tx_align.specs.declared.pre_item.PreItem.{PreItem}
use Rattle.tx_align.specs.declared.pre_item.PreItem.TheVariants as item
use Rattle.tx_align.specs.Preambles.{Forming, takes}
use Rattle.tx_assign.specs.declared.types.Assignment.{Assignment}
use Rattle.tx_assign.specs.Changes.{carried_out}
use Rattle.tx_box.specs.Building.{plain_shape}
use Rattle.tx_command.specs.declared.types.Head.TheVariants.{Aligning, Fresh, Preamble}
use Rattle.tx_command.specs.Commands.{level_before}
use Rattle.tx_eqtb.specs.declared.eqtb.Eqtb.{Eqtb}
use Rattle.tx_eqtb.specs.declared.groups.GroupKind.{GroupKind}
use Rattle.tx_eqtb.specs.declared.groups.GroupKind.TheVariants as group
use Rattle.tx_eqtb.specs.Stack.{opened}
use Rattle.tx_eqtb.specs.Table.{glue_at, tokens_at}
use Rattle.tx_expand.specs.Turns.{entry_end, expanding_once, with_input}
use Rattle.tx_pending.specs.Elements.{with_list}
use Rattle.tx_prim.specs.declared.family.EntryEnd.{EntryEnd}
use Rattle.tx_prim.specs.declared.family.EntryEnd.TheVariants as end
use Rattle.tx_prim.specs.declared.glue.GlueParameter.TheVariants.{Tabskip}
use Rattle.tx_prim.specs.declared.tokens.TokenParameter.TheVariants.{Everycr}
use Rattle.tx_seen.specs.declared.error.TexError.{TexError}
use Rattle.tx_seen.specs.declared.error.TexError.TheVariants.{MisplacedAlignment, SizeOutOfRange, TooDeep, TooManyGroups}
use Rattle.tx_seen.specs.declared.meaning.Meaning.{Meaning}
use Rattle.tx_seen.specs.declared.meaning.Meaning.TheVariants as meaning
use Rattle.tx_seen.specs.declared.place.Place.TheVariants.{Glue, Tokens}
use Rattle.tx_seen.specs.declared.seen.Seen.{Seen}
use Rattle.tx_seen.specs.Seen.{is_space}
use Rattle.tx_shape.specs.declared.types.BoxGoal.{BoxGoal}
use Rattle.tx_state.specs.Outcomes.{Outcome, fails, leaves}
use Rattle.tx_state.specs.Standing.{at_level, before_row, in_mode}
use Rattle.tx_state.specs.State.{TexState}
use Rattle.tx_tabular.specs.declared.alignment.Alignment.{Alignment}
use Rattle.tx_tabular.specs.Alignments.{nothing_read}
use Rattle.tx_tabular.specs.Lists.{beginning as beginning_list}

-- where an alignment can't go on; it never ends by want of memory
abbrev pub error_of : AlignError → TexError
error_of align.SizeOutOfRange = SizeOutOfRange
error_of align.TooDeep = TooDeep
error_of align.MisplacedAlignment = MisplacedAlignment
error_of align.OutOfMemory = SizeOutOfRange

-- the level of braces at which a preamble is read (section 309)
abbrev pub in_preamble : ℤ
in_preamble = neg_ℤ (pos 1000000)

-- a group of this kind begins, if fewer than 255 are open
abbrev pub grouped : GroupKind → TexState → TexState → Outcome
grouped kind s inside =
    if nat_lt (length s.table.groups) 255 then leaves (record inside { table = opened inside.table kind }) else fails TooManyGroups

-- \halign: the level of braces around is kept, and what is behind it is a command of its own (section 772)
abbrev pub aligning : TexState → Outcome
aligning s = leaves (record s { head = Aligning s.reader.input.level; taken = [] })

-- behind its begin-group token the preamble is read, in a group and a list of its own (sections 774 to 777)
abbrev pub with_preamble : TexState → BoxGoal → TexState
with_preamble s goal =
    record (in_mode (record s { lists = beginning_list s.lists })) {
      head = Preamble;
      alignments = nothing_read goal (glue_at s.table.table (Glue Tabskip)) (level_before s.head) ∷ s.alignments;
      reader = at_level in_preamble s.reader;
    }

abbrev pub beginning : TexState → BoxGoal → Outcome
beginning s goal = grouped group.Align s (with_preamble s goal)

-- \span in it: the next token is expanded once (section 782)
abbrev pub expanding : TexState → Outcome
expanding s = leaves (record s { reader = expanding_once s.reader })

-- what a token of it is; & and \cr end parts only outside of its braces
abbrev pub if_outside : Bool → PreItem → Seen → PreItem
if_outside out i t = if out then i else item.Token t.token

abbrev pub is_parameter : Meaning → Bool
is_parameter (meaning.Character code category.Parameter) = true
is_parameter other = false

abbrev pub plain_item : Seen → PreItem
plain_item t = if is_space t then item.Space t.token else if is_parameter t.meaning then item.Param else item.Token t.token

abbrev pub item_by : Bool → Seen → Option EntryEnd → PreItem
item_by out t None = plain_item t
item_by out t (Some end.Tab) = if_outside out item.Tab t
item_by out t (Some end.Cr) = if_outside out item.Cr t
item_by out t (Some end.CrCr) = if_outside out item.Cr t
item_by out t (Some end.Span) = item.Token t.token

abbrev pub is_outside : TexState → Bool
is_outside s = int_eq s.reader.input.level in_preamble

-- the innermost alignment, which is taken up and put back
abbrev pub popped : TexState → List Alignment → TexState
popped s outer = record s { alignments = outer }

abbrev pub with_innermost : TexState → Alignment → List Alignment → TexState
with_innermost s a outer = record s { alignments = a ∷ outer }

-- behind \everycr's tokens
abbrev pub with_everycr : TexState → TexState
with_everycr s = record s { reader = with_input (with_list s.reader.input (tokens_at s.table.table (Tokens Everycr)) false) s.reader }

-- each entry has a group; the preamble has ended before the first one
abbrev pub beginning_rows : TexState → Outcome
beginning_rows s = grouped group.Entry s (before_row (with_everycr s))

abbrev pub has_ended : Part → Bool
has_ended part.Ended = true
has_ended other = false

abbrev pub read_so : TexState → Part → Outcome
read_so s p = if has_ended p then beginning_rows s else leaves s

abbrev pub fed_to : TexState → Alignment → List Alignment → Result Forming TexError → Outcome
fed_to s a outer (Err error) = fails error
fed_to s a outer (Ok p) = read_so (with_innermost s (record a { preamble = p }) outer) p.part

abbrev pub fed_in : TexState → PreItem → List Alignment → Outcome
fed_in s i [] = fails MisplacedAlignment
fed_in s i (a ∷ outer) = fed_to (popped s outer) a outer (takes a.preamble i a.preamble.part)

abbrev pub feeding : TexState → PreItem → Outcome
feeding s i = fed_in s i s.alignments

-- any other token of it
abbrev pub templating : TexState → Seen → Outcome
templating s t = feeding s (item_by (is_outside s) t (entry_end t.meaning))

-- \tabskip in it is assigned, and stands between its columns from then on; what \afterassignment keeps stays (section 782)
abbrev pub tab_set : TexState → Result Eqtb TexError → Outcome
tab_set s (Err error) = fails error
tab_set s (Ok table) = feeding (record s { table = table }) (item.Tabskip (glue_at table.table (Glue Tabskip)))

abbrev pub tabskipping : TexState → Assignment → Outcome
tabskipping s a = tab_set s (carried_out s.table a false)

-- \noalign and its begin-group token (section 785)
abbrev pub beginning_noalign : TexState → Outcome
beginning_noalign s =
    if nat_lt (length s.table.groups) 255 then leaves (record s { table = plain_shape (opened s.table group.NoAlign); head = Fresh }) else fails TooManyGroups
