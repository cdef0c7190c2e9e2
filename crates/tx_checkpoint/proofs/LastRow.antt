-- Behind some rows a page begins with the state and the open files after the last of them.
use Rattle.std.proofs.Common.{◌≡◌, ℕ, zero, suc, ◌<◌, List, [], ◌∷◌, length, take, get_or, refl, arith}
use Rattle.tx_checkpoint.specs.declared.row.Row.{Row}
use Rattle.tx_checkpoint.specs.Meant.{rows_meant}
use Rattle.tx_checkpoint.specs.Resume.{Begun, after_rows}

pub last-row : {S M : Type 0} (meaning : S → M) (begun : Begun M) (rows : List (Row S)) (j : ℕ) (d : Row S) → j < length rows
    → after_rows begun (take (suc j) (rows_meant meaning rows)) ≡ record { state = meaning (get_or rows j d).state; opens = (get_or rows j d).opens }
last-row meaning begun [] j d below = absurd (omega arith)
last-row meaning begun (row ∷ rows) zero d below = refl
last-row meaning begun (row ∷ rows) (suc j) d below = last-row meaning (record { state = meaning row.state; opens = row.opens }) rows j d (omega arith)
