use Rattle.std.proofs.Common.{◌≡◌, drop}
use Rattle.tx_tabular.specs.Rows.{extent_from, no_extent}
use Rattle.tx_tabular.proofs.rows.row_extent.Given as goal

abbrev pub invariant-loop-cell : goal.invariant-loop-cell
invariant-loop-cell l = extent_from l.extent (drop l.cell-index l.cells) ≡ extent_from no_extent l.cells
