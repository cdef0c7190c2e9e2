use Rattle.std.proofs.Common.{◌≡◌, ◌++◌, drop}
use Rattle.std.specs.Prelude.{flat_map}
use Rattle.tx_align.specs.RowBoxes.{blank_items}
use Rattle.tx_align.proofs.row_boxes.put_blanks.Given as goal

abbrev pub invariant-loop-column : goal.invariant-loop-column
invariant-loop-column l = l.list ++ flat_map blank_items (drop l.column-index l.columns) ≡ l.initial.list ++ flat_map blank_items l.columns
