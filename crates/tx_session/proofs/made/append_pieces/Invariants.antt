use Rattle.std.proofs.Common.{◌≡◌, ℕ, List, ◌++◌, drop}
use Rattle.tx_session.specs.Held.{joined_with}
use Rattle.tx_session.proofs.made.append_pieces.Given as goal

abbrev pub invariant-loop-piece : goal.invariant-loop-piece
invariant-loop-piece l = (rest : List (List ℕ)) (last : List ℕ) → l.said ++ joined_with (drop l.piece-index l.pieces ++ rest) last ≡ l.initial.said ++ joined_with (l.pieces ++ rest) last
