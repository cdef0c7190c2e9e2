-- What becomes of an alignment that ends (TeX: The Program, sections 800 and 804 to 812).
use Rattle.std.specs.Prelude.{ℕ, pos, is_some, List, [], ◌∷◌, ◌++◌, map, Result, Ok, Err, if◌then◌else◌}
use Rattle.tx_node.specs.Items.{Item, PackedBox, box_item}
use Rattle.tx_pack.specs.declared.types.Goal.{Goal}
use Rattle.tx_pack.specs.declared.types.PackParams.{PackParams}
use Rattle.tx_align.specs.declared.aligned.Aligned.{Aligned}
use Rattle.tx_align.specs.declared.aligned.Laid.{Laid}
use Rattle.tx_align.specs.declared.error.AlignError.{AlignError}
use Rattle.tx_align.specs.declared.error.AlignError.TheVariants.{MisplacedAlignment}
use Rattle.tx_align.specs.declared.prototype.Made.{Made}
use Rattle.tx_align.specs.declared.prototype.Prototype.{Prototype}
use Rattle.tx_align.specs.declared.row_item.RowItem.{RowItem}
use Rattle.tx_align.specs.declared.row_item.RowItem.TheVariants as row
use Rattle.tx_align.specs.Preambles.{Forming}
use Rattle.tx_align.specs.Rows.{open_columns}
use Rattle.tx_align.specs.Entries.{met_in}
use Rattle.tx_align.specs.Widths.{sized_by}
use Rattle.tx_align.specs.Prototypes.{made_by}
use Rattle.tx_align.specs.RowBoxes.{between, row_box}

-- nothing stands in the list yet, and no cell waits for the end of its row
abbrev pub nothing_laid : Laid
nothing_laid = record { nodes = []; cells = [] }

-- a row stands in the list, and the next one has no cell yet
abbrev pub with_row : Laid → Result PackedBox AlignError → Result Laid AlignError
with_row s (Err e) = Err e
with_row s (Ok b) = Ok (record { nodes = s.nodes ++ box_item (pos 0) b ∷ []; cells = [] })

-- a cell waits for the end of its row
abbrev pub with_cell : Laid → ℕ → List Item → Laid
with_cell s span list = record s { cells = s.cells ++ record { span = span; list = list } ∷ [] }

-- what is between rows stands as it is, but for its rules
abbrev pub with_between : Prototype → Laid → List Item → Laid
with_between p s list = record s { nodes = s.nodes ++ map (between p.head) list }

abbrev pub laid_behind : Prototype → Laid → RowItem → Result Laid AlignError
laid_behind p s (row.Cell span list) = Ok (with_cell s span list)
laid_behind p s row.RowEnd = with_row s (row_box p s.cells)
laid_behind p s (row.NoAlign list) = Ok (with_between p s list)

-- all rows in their order, up to the first that can't be set
abbrev pub laid_next : (Laid → Result Laid AlignError) → Result Laid AlignError → Result Laid AlignError
laid_next more (Err e) = Err e
laid_next more (Ok s) = more s

abbrev pub laid_from : Prototype → Laid → List RowItem → Result Laid AlignError
laid_from p s [] = Ok s
laid_from p s (item ∷ rest) = laid_next (λ more. laid_from p more rest) (laid_behind p s item)

-- the list of the alignment, with how bad the preamble's box is, and what is told of it
abbrev pub told : Made → Result Laid AlignError → Result Aligned AlignError
told made (Err e) = Err e
told made (Ok s) = Ok (record { nodes = s.nodes; badness = made.badness; report = made.report })

abbrev pub aligned_by : List RowItem → Result Made AlignError → Result Aligned AlignError
aligned_by rows (Err e) = Err e
aligned_by rows (Ok made) = told made (laid_from made.prototype nothing_laid rows)

-- a row may not be open; then columns get their widths, the preamble is packed to the goal, and rows are set by it
abbrev pub finished : Forming → List RowItem → Goal → PackParams → Result Aligned AlignError
finished p rows goal params =
    if is_some (open_columns rows) then Err MisplacedAlignment
    else aligned_by rows (made_by p goal params (sized_by p (met_in rows)))
