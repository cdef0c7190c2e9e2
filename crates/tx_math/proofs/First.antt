-- What stands first.
use Rattle.std.proofs.Common.{◌≡◌, ◌∙◌, ◌+◌, ◌<◌, ℕ, suc, false, List, [], ◌∷◌, length, drop, get_or, Some, None, refl, ap, sym, add-one}
use Rattle.std.proofs.Math.Seq.{drop-cons}
use Rattle.std.specs.Prelude.{slice_get}
use Rattle.tx_math.specs.declared.entry.Entry.{Entry as EntryFields}
use Rattle.tx_math.specs.declared.piece.Piece.{Piece as PieceFields}
use Rattle.tx_math.specs.Composing.{pair_in, pair_of}
use Rattle.tx_math.specs.Converting.{entries_in, entry_of, piece_in, pieces_in}
use Rattle.tx_math.specs.Entries.{Entry}
use Rattle.tx_math.specs.Spacing.{piece_takes_penalty, takes_penalty}

-- a pair of an entry and the first one behind it
pub pair_first : (e : Entry) (rest : List EntryFields) (next : EntryFields) → slice_get rest 0 ≡ Some next → pair_in e (entries_in rest) ≡ pair_of e (entry_of next)
pair_first e [] next h = cc
pair_first e (x ∷ rest) next h = let same : x ≡ next = cc in ap (λ (y : EntryFields). pair_of e (entry_of y)) same

pub pair_alone : (e : Entry) (rest : List EntryFields) → slice_get rest 0 ≡ None → pair_in e (entries_in rest) ≡ None
pair_alone e [] h = refl
pair_alone e (x ∷ rest) h = cc

-- a penalty before the first piece
pub penalty_first : (rest : List PieceFields) (piece : PieceFields) → slice_get rest 0 ≡ Some piece → takes_penalty (pieces_in rest) ≡ piece_takes_penalty (piece_in piece)
penalty_first [] piece h = cc
penalty_first (x ∷ rest) piece h = let same : x ≡ piece = cc in ap (λ (y : PieceFields). piece_takes_penalty (piece_in y)) same

pub penalty_alone : (rest : List PieceFields) → slice_get rest 0 ≡ None → takes_penalty (pieces_in rest) ≡ false
penalty_alone [] h = refl
penalty_alone (x ∷ rest) h = cc

-- what stands at a place of a list, and what stands behind it
pub front : {A : Type 0} (list : List A) (at : ℕ) (x : A) → at < length list → x ≡ get_or list at x → drop at list ≡ x ∷ drop (at + 1) list
front list at x below is = rw (add-one at) (drop-cons list at x below ∙ ap (λ y. y ∷ drop (suc at) list) (sym is))
