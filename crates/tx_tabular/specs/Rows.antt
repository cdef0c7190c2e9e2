-- Rows end (TeX: The Program, sections 679, 799 and 801).
use Rattle.std.specs.Prelude.{ℤ, pos, true, List, [], ◌∷◌, Option, Result, Ok, Err}
use Rattle.std.specs.Int.{int_max}
use Rattle.tx_align.specs.declared.error.AlignError.{AlignError}
use Rattle.tx_align.specs.declared.error.AlignError.TheVariants.{SizeOutOfRange}
use Rattle.tx_align.specs.declared.row_item.RowItem.{RowItem}
use Rattle.tx_align.specs.declared.row_item.RowItem.TheVariants as row
use Rattle.tx_align.specs.Prototypes.{of_packing}
use Rattle.tx_align.specs.Rows.{pushed}
use Rattle.tx_box.specs.declared.parts.Lists.{Lists}
use Rattle.tx_box.specs.Placing.{with_list}
use Rattle.tx_nest.specs.declared.leading.LeadingParams.{LeadingParams}
use Rattle.tx_nest.specs.declared.leading.NestError.{NestError}
use Rattle.tx_nest.specs.declared.list.ModeList.{ModeList}
use Rattle.tx_nest.specs.Appended.{with_leading}
use Rattle.tx_nest.specs.Leading.{leading_behind}
use Rattle.tx_nest.specs.States.{behind_box, prev_depth}
use Rattle.tx_node.specs.declared.plain.Shared.TheVariants.{Special}
use Rattle.tx_node.specs.Items.{Item, shared}
use Rattle.tx_num.specs.Glue.{GlueSpec}
use Rattle.tx_pack.specs.declared.types.Extent.{Extent}
use Rattle.tx_pack.specs.declared.types.PackError.{PackError}
use Rattle.tx_pack.specs.Packing.{extent_of}
use Rattle.tx_tabular.specs.declared.alignment.Alignment.{Alignment}
use Rattle.tx_tabular.specs.Alignments.{Laying}

-- a row is as high and as deep as the highest and the deepest of its entries
abbrev pub no_extent : Extent
no_extent = record { height = pos 0; depth = pos 0 }

abbrev pub greater : Extent → Extent → Extent
greater one other = record { height = int_max one.height other.height; depth = int_max one.depth other.depth }

abbrev pub with_extent : Extent → Result Extent PackError → Result Extent AlignError
with_extent extent (Err error) = Err (of_packing error)
with_extent extent (Ok more) = Ok (greater extent more)

abbrev pub extent_with : Extent → RowItem → Result Extent AlignError
extent_with extent (row.Cell span list) = with_extent extent (extent_of list)
extent_with extent other = Ok extent

abbrev pub extent_next : (Extent → Result Extent AlignError) → Result Extent AlignError → Result Extent AlignError
extent_next more (Err error) = Err error
extent_next more (Ok extent) = more extent

abbrev pub extent_from : Extent → List RowItem → Result Extent AlignError
extent_from extent [] = Ok extent
extent_from extent (cell ∷ cells) = extent_next (λ more. extent_from more cells) (extent_with extent cell)

-- its leading is that of a line in the list of the alignment (section 679)
abbrev pub leading_of : Result (Option GlueSpec) NestError → Result (Option GlueSpec) AlignError
leading_of (Err error) = Err SizeOutOfRange
leading_of (Ok glue) = Ok glue

abbrev pub leading_items : Option GlueSpec → List Item
leading_items glue = with_leading [] glue

abbrev pub depth_of : ModeList → Option ℤ
depth_of list = prev_depth list.state

-- several items join the rows
abbrev pub with_rows : Alignment → Result (List RowItem) AlignError → Result Alignment AlignError
with_rows a (Err error) = Err error
with_rows a (Ok rows) = Ok (record a { rows = rows })

abbrev pub pushing : Alignment → RowItem → Result Alignment AlignError
pushing a item = with_rows a (pushed a.preamble a.rows item)

abbrev pub then_pushing : (Alignment → Result Alignment AlignError) → Result Alignment AlignError → Result Alignment AlignError
then_pushing more (Err error) = Err error
then_pushing more (Ok a) = more a

abbrev pub with_pushed : Alignment → List RowItem → Result Alignment AlignError
with_pushed a [] = Ok a
with_pushed a (item ∷ items) = then_pushing (λ more. with_pushed more items) (pushing a item)

-- the row: its leading, its entries, and its end
abbrev pub row_whole : Alignment → Alignment
row_whole a = record a { behind_row = true }

abbrev pub row_made : Result Alignment AlignError → Result Alignment AlignError
row_made (Err error) = Err error
row_made (Ok a) = Ok (row_whole a)

abbrev pub with_row : Alignment → Option GlueSpec → Result Alignment AlignError
with_row a glue =
    row_made
    (then_pushing (λ full. pushing full row.RowEnd)
    (then_pushing (λ begun. with_pushed begun a.cells)
    (pushing (record a { cells = [] }) (row.NoAlign (leading_items glue)))))

-- the list between rows begins anew with what leaves the entries; to commands there the row before it is an item that is neither glue
-- nor a kern, a penalty or a box
abbrev pub row_stands : List Item → List Item
row_stands leaving = shared (Special []) ∷ leaving

abbrev pub behind_row : ModeList → ℤ → List Item → ModeList
behind_row list depth leaving = record list { state = behind_box list.state depth; nodes = row_stands leaving }

abbrev pub stood : Lists → ℤ → List Item → Result Alignment AlignError → Laying
stood lists depth leaving (Err error) = Err error
stood lists depth leaving (Ok a) = Ok (record { lists = with_list lists (behind_row lists.nest.innermost depth leaving); alignment = a })

abbrev pub led : Lists → Alignment → Extent → Result (Option GlueSpec) AlignError → Laying
led lists a extent (Err error) = Err error
led lists a extent (Ok glue) = stood lists extent.depth a.leaving (with_row (record a { leaving = [] }) glue)

abbrev pub measured : LeadingParams → Lists → Alignment → Result Extent AlignError → Laying
measured params lists a (Err error) = Err error
measured params lists a (Ok extent) = led lists a extent (leading_of (leading_behind params (depth_of lists.nest.innermost) extent.height))

abbrev pub ending_row : LeadingParams → Lists → Alignment → Laying
ending_row params lists a = measured params lists a (extent_from no_extent a.cells)
