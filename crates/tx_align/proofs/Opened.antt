-- How many columns the row has that is open, with one more item.
use Rattle.std.proofs.Common.{◌≡◌, List, [], ◌∷◌, ◌++◌, None}
use Rattle.std.proofs.lemmas.List.Sums.{fold_push}
use Rattle.tx_align.specs.declared.row_item.RowItem.{RowItem}
use Rattle.tx_align.specs.Rows.{open_behind, open_columns}

pub open_more : (rows : List RowItem) (item : RowItem) → open_columns (rows ++ item ∷ []) ≡ open_behind (open_columns rows) item
open_more rows item = fold_push open_behind None rows item
