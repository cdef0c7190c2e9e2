use Rattle.std.proofs.Common.{◌≡◌, ◌++◌}
use Rattle.tx_align.specs.RowBoxes.{cells_items}
use Rattle.tx_align.proofs.row_boxes.put_cells.Given as goal

abbrev pub invariant-loop-cell : goal.invariant-loop-cell
invariant-loop-cell l =
    l.list ++ cells_items l.height l.depth l.next l.cell-iterator.rest.items ≡ l.initial.list ++ cells_items l.height l.depth l.columns l.fn.cells
