-- Entries begin and end (TeX: The Program, sections 786 to 796).
use Rattle.std.specs.Prelude.{suc, pos, Bool, true, false, List, [], ◌∷◌, ◌++◌, is_some, Option, None, Some, Result, Ok, Err, if◌then◌else◌}
use Rattle.tx_char.specs.declared.tokens.Token.{Token}
use Rattle.tx_align.specs.declared.error.AlignError.{AlignError}
use Rattle.tx_align.specs.declared.error.AlignError.TheVariants.{MisplacedAlignment}
use Rattle.tx_align.specs.declared.row_item.RowItem.{RowItem}
use Rattle.tx_align.specs.declared.row_item.RowItem.TheVariants as row
use Rattle.tx_align.specs.Columns.{parts}
use Rattle.tx_align.specs.Rows.{pushed}
use Rattle.tx_box.specs.declared.parts.Lists.{Lists}
use Rattle.tx_box.specs.Building.{left_list}
use Rattle.tx_box.specs.Placing.{with_list}
use Rattle.tx_nest.specs.declared.nest.Nest.{Nest}
use Rattle.tx_nest.specs.Changed.{with_nodes}
use Rattle.tx_par.specs.declared.line.Line.{Line}
use Rattle.tx_par.specs.LineLists.{line_of}
use Rattle.tx_pending.specs.declared.next.ColumnPart.{ColumnPart}
use Rattle.tx_pending.specs.declared.next.ColumnPart.TheVariants.{U, V}
use Rattle.tx_prim.specs.declared.family.EntryEnd.{EntryEnd}
use Rattle.tx_prim.specs.declared.family.EntryEnd.TheVariants as end
use Rattle.tx_tabular.specs.declared.alignment.Alignment.{Alignment}
use Rattle.tx_tabular.specs.Alignments.{Laying}
use Rattle.tx_tabular.specs.Lists.{between, entering}

-- a row begins with its first entry; what stood before it is kept (section 786)
abbrev pub row_begun : Lists → Alignment → Result (List RowItem) AlignError → Laying
row_begun lists a (Err error) = Err error
row_begun lists a (Ok rows) =
    Ok (record { lists = entering (with_list lists (with_nodes lists.nest.innermost [])); alignment = record a { rows = rows; column = 0; span = 1 } })

abbrev pub rowing : Lists → Alignment → Laying
rowing lists a = row_begun lists a (pushed a.preamble a.rows (row.NoAlign (between a.behind_row lists.nest.innermost.nodes)))

-- an entry begins, whether with \omit (section 788)
abbrev pub beginning_entry : Bool → Alignment → Alignment
beginning_entry omitted a = record a { omitted = omitted; ending = None }

-- the u- and the v-part of its column; with \omit it has none (sections 788 and 789)
abbrev pub chosen : ColumnPart → Option (List Token × List Token) → List Token
chosen part None = []
chosen U (Some both) = both.0
chosen V (Some both) = both.1

abbrev pub part_of : ColumnPart → Alignment → List Token
part_of part a = if a.omitted then [] else chosen part (parts a.preamble a.column)

-- what ends it, while its v-part is read (section 789)
abbrev pub ended_by : EntryEnd → Alignment → Alignment
ended_by word a = record a { ending = Some word }

-- once that is read (section 792): behind & and \span a further column has to be there
abbrev pub has_next : Alignment → Bool
has_next a = is_some (parts a.preamble (suc a.column))

abbrev pub needs_next : EntryEnd → Bool
needs_next end.Tab = true
needs_next end.Span = true
needs_next end.Cr = false
needs_next end.CrCr = false

abbrev pub ending_by : Alignment → Option EntryEnd → Result EntryEnd AlignError
ending_by a None = Err MisplacedAlignment
ending_by a (Some word) = if needs_next word then (if has_next a then Ok word else Err MisplacedAlignment) else Ok word

abbrev pub ending_of : Alignment → Result EntryEnd AlignError
ending_of a = ending_by a a.ending

-- \span: the entry goes on in the next column
abbrev pub spanning : Alignment → Alignment
spanning a = record a { column = suc a.column; span = suc a.span }

-- the next column's entry is to come
abbrev pub advancing : Alignment → Alignment
advancing a = record a { column = suc a.column; span = 1 }

-- its list is a cell, which marks, insertions and adjustments leave, to follow the row; it is packed to its natural size, so that
-- \badness is 0 (section 796)
abbrev pub with_cell : Alignment → Line → Alignment
with_cell a line = record a { cells = a.cells ++ row.Cell a.span line.own ∷ []; leaving = a.leaving ++ line.behind }

abbrev pub celled : Lists → Alignment → Option Nest → Laying
celled lists a None = Err MisplacedAlignment
celled lists a (Some nest) = Ok (record { lists = record lists { nest = nest; badness = pos 0 }; alignment = with_cell a (line_of lists.nest.innermost.nodes) })

abbrev pub celling : Lists → Alignment → Laying
celling lists a = celled lists a (left_list lists.nest.innermost lists.nest.around)
