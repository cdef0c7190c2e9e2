use Rattle.std.proofs.Common.{◌≡◌, pos, drop, fold}
use Rattle.tx_align.specs.RowBoxes.{higher}
use Rattle.tx_align.proofs.row_boxes.row_height.Given as goal

abbrev pub invariant-loop-cell : goal.invariant-loop-cell
invariant-loop-cell l = fold higher l.height (drop l.cell-index l.cells) ≡ fold higher (pos 0) l.cells
