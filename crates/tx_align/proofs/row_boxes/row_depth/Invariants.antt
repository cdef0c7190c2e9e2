use Rattle.std.proofs.Common.{◌≡◌, pos, drop, fold}
use Rattle.tx_align.specs.RowBoxes.{deeper}
use Rattle.tx_align.proofs.row_boxes.row_depth.Given as goal

abbrev pub invariant-loop-cell : goal.invariant-loop-cell
invariant-loop-cell l = fold deeper l.depth (drop l.cell-index l.cells) ≡ fold deeper (pos 0) l.cells
