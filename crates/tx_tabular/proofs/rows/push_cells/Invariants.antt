use Rattle.std.proofs.Common.{◌≡◌}
use Rattle.tx_tabular.specs.Rows.{with_pushed}
use Rattle.tx_tabular.proofs.rows.push_cells.Given as goal

abbrev pub invariant-loop-cell : goal.invariant-loop-cell
invariant-loop-cell l = with_pushed l.alignment l.cell-iterator.rest.items ≡ with_pushed l.initial.alignment l.fn.cells
