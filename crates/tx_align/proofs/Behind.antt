-- A cell is put behind others, and then the next.
use Rattle.std.proofs.Common.{◌≡◌, List, Result, Ok, Err, ap}
use Rattle.tx_align.specs.declared.cell.SetCell.{SetCell}
use Rattle.tx_align.specs.declared.error.AlignError.{AlignError}
use Rattle.tx_align.specs.RowBoxes.{cells_behind}

abbrev list_or : List SetCell → Result (List SetCell) AlignError → List SetCell
list_or other (Err e) = other
list_or other (Ok list) = list

pub cells_next : (done made : List SetCell) (next : List SetCell → Result (List SetCell) AlignError) (r : Result SetCell AlignError)
    → cells_behind done Ok r ≡ Ok made → cells_behind done next r ≡ next made
cells_next done made next (Err e) is = absurd (cc)
cells_next done made next (Ok cell) is = ap (λ (q : Result (List SetCell) AlignError). next (list_or done q)) is
