-- What may stand in the rows of an alignment (TeX: The Program, sections 785, 792 and 1131 to 1133).
use Rattle.std.specs.Prelude.{ℕ, ◌+◌, Bool, not, is_some, List, [], ◌∷◌, ◌++◌, fold, Option, Some, None, unwrap_or, Result, Ok, Err, if◌then◌else◌}
use Rattle.tx_align.specs.declared.error.AlignError.{AlignError}
use Rattle.tx_align.specs.declared.error.AlignError.TheVariants.{MisplacedAlignment}
use Rattle.tx_align.specs.declared.row_item.RowItem.{RowItem}
use Rattle.tx_align.specs.declared.row_item.RowItem.TheVariants as row
use Rattle.tx_align.specs.Preambles.{Forming}
use Rattle.tx_align.specs.Columns.{has_columns}

-- how many columns a row has with a cell of so many more, by how many it has, if it has begun
abbrev pub used : Option ℕ → ℕ → ℕ
used had span = unwrap_or had 0 + span

-- how many columns the row has that is open behind an item, None where none is
abbrev pub open_behind : Option ℕ → RowItem → Option ℕ
open_behind had (row.Cell span list) = Some (used had span)
open_behind had row.RowEnd = None
open_behind had (row.NoAlign list) = had

-- and at the end of a list
abbrev pub open_columns : List RowItem → Option ℕ
open_columns rows = fold open_behind None rows

-- a cell may come where the preamble has its columns, a row may end that has begun, and all else stands between rows
abbrev pub may_stand : Forming → Option ℕ → RowItem → Bool
may_stand p had (row.Cell span list) = has_columns p (used had span)
may_stand p had row.RowEnd = is_some had
may_stand p had (row.NoAlign list) = not (is_some had)

-- rows with one more item
abbrev pub pushed : Forming → List RowItem → RowItem → Result (List RowItem) AlignError
pushed p rows item = if may_stand p (open_columns rows) item then Ok (rows ++ item ∷ []) else Err MisplacedAlignment
