-- What a session keeps of its run: the rows, and the pieces of the transcript joined.
use Rattle.std.specs.Prelude.{◌≡◌, ℕ, List, ◌++◌, take, drop}
use Rattle.tx_checkpoint.specs.declared.row.Rows.{Rows}
use Rattle.tx_checkpoint.specs.Meant.{AreRows}
use Rattle.tx_checkpoint.specs.Rows.{History}
use Rattle.tx_quiesce.specs.declared.further.Further.{Further}
use Rattle.tx_quiesce.specs.declared.further.Further.TheVariants.{Goes, Stands}
use Rattle.tx_quiesce.specs.declared.later.Later.{Later}
use Rattle.tx_quiesce.specs.Later.{pieces_of}
use Rattle.tx_session.specs.declared.kept.Made.{Made}
use Rattle.tx_session.specs.Held.{joined_with}

-- a transcript that had these pieces put behind it
abbrev pub Joins : List (List ℕ) → List ℕ → List ℕ → Type 0
Joins pieces before after = (rest : List (List ℕ)) (last : List ℕ) → after ++ joined_with rest last ≡ before ++ joined_with (pieces ++ rest) last

-- the transcript is that of the rows
abbrev pub IsSaid : {S : Type 0} → Made S → Type 0
IsSaid made = made.said ≡ joined_with made.rows.pieces.items made.rows.last.piece

-- of whatever run the old rows are, the new ones are of what this makes of it
abbrev pub Becomes : {S M : Type 0} → (S → M) → Rows S → (History M → History M) → Rows S → Type 0
Becomes {M = M} meaning old makes new = (h : History M) → AreRows meaning old h → AreRows meaning new (makes h)

-- the pieces after changes: those that are kept, those of what was formatted, those that are reused, and those of what comes further
abbrev pub pieces_after : {S : Type 0} → Rows S → ℕ → Later S → List (List ℕ)
pieces_after rows kept later =
    take kept rows.pieces.items ++ (later.front.pieces.items ++ (take later.count (drop later.from rows.pieces.items) ++ pieces_of later.further))

-- the piece of the last stretch after it, the old one or another
abbrev pub last_piece : {S : Type 0} → List ℕ → Further S → List ℕ
last_piece piece (Goes rows) = rows.last.piece
last_piece piece (Stands end) = piece
