-- What the cells of an alignment ask of its columns (TeX: The Program, sections 796 to 798).
use Rattle.std.specs.Prelude.{◌==◌, ℕ, zero, suc, ◌+◌, max, ℤ, pos, ◌+ℤ◌, Bool, List, [], ◌∷◌, ◌++◌, fold, filter, Option, Some, None, Result, Ok, Err}
use Rattle.tx_node.specs.declared.head.Direction.TheVariants.{Horizontal}
use Rattle.tx_node.specs.Items.{Item}
use Rattle.tx_node.specs.Sizes.{advance}
use Rattle.tx_pack.specs.Packing.{if_fits}
use Rattle.tx_align.specs.declared.entry.Entry.{Entry}
use Rattle.tx_align.specs.declared.entry.Met.{Met}
use Rattle.tx_align.specs.declared.error.AlignError.{AlignError}
use Rattle.tx_align.specs.declared.error.AlignError.TheVariants.{SizeOutOfRange}
use Rattle.tx_align.specs.declared.row_item.RowItem.{RowItem}
use Rattle.tx_align.specs.declared.row_item.RowItem.TheVariants as row

-- how wide a cell is naturally: the sum of how wide its items are, which is a dimension behind each of them
abbrev pub wider : (ℤ → Option ℤ) → Option ℤ → Option ℤ
wider more None = None
wider more (Some width) = more width

abbrev pub width_from : ℤ → List Item → Option ℤ
width_from width [] = Some width
width_from width (item ∷ rest) = wider (λ more. width_from more rest) (if_fits (width +ℤ advance Horizontal item))

abbrev pub natural_width : List Item → Option ℤ
natural_width list = width_from (pos 0) list

-- an entry: a cell of these columns, counted from 0, up to the one before `end`, and its width. `at` is the column that comes next.
abbrev pub nothing_met : Met
nothing_met = record { at = 0; entries = [] }

abbrev pub with_entry : Met → ℕ → Option ℤ → Result Met AlignError
with_entry m span None = Err SizeOutOfRange
with_entry m span (Some width) = Ok (record { at = m.at + span; entries = m.entries ++ record { first = m.at; end = m.at + span; width = width } ∷ [] })

-- the entries of rows in their order, up to the first cell that is too wide
abbrev pub met_behind : Met → RowItem → Result Met AlignError
met_behind m (row.Cell span list) = with_entry m span (natural_width list)
met_behind m row.RowEnd = Ok (record m { at = 0 })
met_behind m (row.NoAlign list) = Ok m

abbrev pub met_next : (Met → Result Met AlignError) → Result Met AlignError → Result Met AlignError
met_next more (Err e) = Err e
met_next more (Ok m) = more m

abbrev pub met_from : Met → List RowItem → Result Met AlignError
met_from m [] = Ok m
met_from m (item ∷ rest) = met_next (λ more. met_from more rest) (met_behind m item)

abbrev pub met_in : List RowItem → Result Met AlignError
met_in rows = met_from nothing_met rows

-- how many columns an alignment has: those of its preamble, and as many more as a row needs
abbrev pub further : ℕ → Entry → ℕ
further count entry = max count entry.end

abbrev pub count_of : ℕ → List Entry → ℕ
count_of count entries = fold further count entries

-- the entries that end in a column
abbrev pub ends_in : ℕ → Entry → Bool
ends_in column entry = entry.end == suc column

abbrev pub ending_in : ℕ → List Entry → List Entry
ending_in column entries = filter (ends_in column) entries

-- and so of each of so many columns, from one on
abbrev pub endings : ℕ → ℕ → List Entry → List (List Entry)
endings column zero entries = []
endings column (suc more) entries = ending_in column entries ∷ endings (suc column) more entries
