use Rattle.std.proofs.Common.{◌≡◌, ◌++◌, true, drop}
use Rattle.tx_num.specs.Glue.{IsDimension}
use Rattle.tx_node.specs.Items.{items_of}
use Rattle.tx_node.specs.Setting.{sums_fit}
use Rattle.tx_align.specs.Prototypes.{column_items, placed, placed_from}
use Rattle.tx_align.proofs.placing.placed.Given as goal

abbrev pub invariant-loop-column : goal.invariant-loop-column
invariant-loop-column l = record {
  made : l.made ++ placed_from l.setting l.sum (drop l.column-index l.columns) ≡ placed l.setting l.first l.columns;
  fits : sums_fit l.setting l.sum (items_of (column_items (drop l.column-index l.columns))) ≡ true;
  small : IsDimension l.sum;
}
