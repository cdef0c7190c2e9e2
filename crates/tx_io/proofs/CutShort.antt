-- How outputs that are cut short join with those before and after.
use Rattle.std.proofs.Common.{◌≡◌, List, [], ◌∷◌, ◌++◌, Option, Some, None, refl, sym, ap, subst, ◌∙◌, append_assoc, append-nil}
use Rattle.tx_io.specs.Output.{Output, Piece, Say, Save, told}
use Rattle.tx_io.specs.Sink.{IsPutInPart, AsBefore, PutGives}
use Rattle.tx_io.specs.Cut.{IsNextInPart, IsCutShort}
use Rattle.tx_io.specs.declared.sink.Put.{Put}
use Rattle.tx_io.specs.declared.sink.Put.TheVariants.{Done, Failed, OutOfMemory}
use Rattle.tx_io.proofs.Told.{told-append}

-- nothing is a part of a piece
pub nothing_put : (before : Option Output) (piece : Piece) → IsPutInPart before piece before
nothing_put None piece = refl
nothing_put (Some before) (Say bytes) = (0, λ i. record before { said = sym (append-nil before.said) i })
nothing_put (Some before) (Save name bytes) = AsBefore refl

-- nothing is put out yet
pub cut-nothing : (before : Option Output) (pieces : List Piece) → IsCutShort before pieces before
cut-nothing before [] = record { whole = []; left = []; are = refl; next = refl }
cut-nothing before (piece ∷ pieces) = record { whole = []; left = piece ∷ pieces; are = refl; next = nothing_put before piece }

-- the pieces are put out whole
pub cut-whole : (before : Option Output) (pieces later : List Piece) → IsCutShort before (pieces ++ later) (told before pieces)
cut-whole before pieces [] = record { whole = pieces; left = []; are = refl; next = refl }
cut-whole before pieces (piece ∷ later) = record { whole = pieces; left = piece ∷ later; are = refl; next = nothing_put (told before pieces) piece }

-- the first piece is put out in part
pub cut-piece : (before : Option Output) (piece : Piece) (later : List Piece) (after : Option Output) → IsPutInPart before piece after → IsCutShort before (piece ∷ later) after
cut-piece before piece later after part = record { whole = []; left = piece ∷ later; are = refl; next = part }

-- whatever a sink answers to a piece, it is put out whole or in part
pub cut-put : (answer : Put) (before : Option Output) (piece : Piece) (later : List Piece) (after : Option Output) → PutGives answer before piece after → IsCutShort before (piece ∷ later) after
cut-put Done before piece later after whole = subst (IsCutShort before (piece ∷ later)) (sym whole) (cut-whole before (piece ∷ []) later)
cut-put Failed before piece later after part = cut-piece before piece later after part
cut-put OutOfMemory before piece later after part = cut-piece before piece later after part

-- pieces were put out whole, and those behind them are cut short
pub cut-behind : (before : Option Output) (first second : List Piece) (after : Option Output) → IsCutShort (told before first) second after → IsCutShort before (first ++ second) after
cut-behind before first second after cut = record {
  whole = first ++ cut.whole;
  left = cut.left;
  are = ap (λ pieces. first ++ pieces) cut.are ∙ sym (append_assoc first cut.whole cut.left);
  next = subst (λ (between : Option Output). IsNextInPart between cut.left after) (told-append before first cut.whole) cut.next;
}

-- pieces that were cut short are so too where more were to come
pub cut-longer : (before : Option Output) (pieces later : List Piece) (after : Option Output) → IsCutShort before pieces after → IsCutShort before (pieces ++ later) after
cut-longer before pieces later after cut = by cut.left cut.are cut.next
  where
    by : (left : List Piece) → pieces ≡ cut.whole ++ left → IsNextInPart (told before cut.whole) left after → IsCutShort before (pieces ++ later) after
    by [] are next = subst (λ (o : Option Output). IsCutShort before (pieces ++ later) o) (sym next)
        (subst (λ (ps : List Piece). IsCutShort before (ps ++ later) (told before cut.whole)) (sym (are ∙ append-nil cut.whole)) (cut-whole before cut.whole later))
    by (piece ∷ left) are next = record {
      whole = cut.whole;
      left = (piece ∷ left) ++ later;
      are = ap (λ ps. ps ++ later) are ∙ append_assoc cut.whole (piece ∷ left) later;
      next = next;
    }
