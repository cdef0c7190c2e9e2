use Rattle.std.proofs.Common.{◌≡◌, ◌++◌, drop}
use Rattle.tx_align.specs.Prototypes.{column_items}
use Rattle.tx_align.proofs.placing.push_columns.Given as goal

abbrev pub invariant-loop-column : goal.invariant-loop-column
invariant-loop-column l = l.list ++ column_items (drop l.column-index l.columns) ≡ l.initial.list ++ column_items l.columns
