use Rattle.std.proofs.Common.{◌≡◌, []}
use Rattle.tx_align.specs.RowBoxes.{cells_set}
use Rattle.tx_align.proofs.cells.cells_set.Given as goal

abbrev pub invariant-loop-cell : goal.invariant-loop-cell
invariant-loop-cell l = cells_set l.next l.done l.cell-iterator.rest.items ≡ cells_set l.columns [] l.fn.cells
