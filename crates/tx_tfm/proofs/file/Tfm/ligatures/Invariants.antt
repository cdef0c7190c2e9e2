use Rattle.std.proofs.Common.{◌≡◌, ℕ, ◌<◌, [], get_or, vec_len}
use Rattle.tx_tfm.specs.Table.{piece_of, IsRowOf}
use Rattle.tx_tfm.proofs.file.Tfm.ligatures.Given as goal

abbrev pub invariant-loop-k : goal.invariant-loop-k
invariant-loop-k l =
    (vec_len l.rows ≡ l.k) × ((j : ℕ) → j < l.k → IsRowOf l.self (piece_of j) (get_or l.rows.items j []))
