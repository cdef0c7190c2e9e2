-- The rules of composing leave no choice.
use Rattle.std.proofs.Common.{◌≡◌, Bool, true, false, ltb, Option, Some, None, List, [], ◌∷◌, ◌++◌, refl, sym, ap, subst, ◌∙◌}
use Rattle.std.proofs.lemmas.Bool.{lt-ltb, le-ltb}
use Rattle.tx_tfm.specs.declared.file.Word.{Word}
use Rattle.tx_tfm.specs.declared.metrics.Metrics.{Metrics}
use Rattle.tx_tfm.specs.LigKern.{command_of}
use Rattle.tx_tfm.specs.Metrics.{kern_of}
use Rattle.tx_ligkern.specs.declared.item.LigItem.{LigItem}
use Rattle.tx_ligkern.specs.declared.item.LigItem.TheVariants.{Kern}
use Rattle.tx_ligkern.specs.declared.piece.Piece.{Piece}
use Rattle.tx_ligkern.specs.Pieces.{code_of, items_of}
use Rattle.tx_ligkern.specs.Composing.{ahead, passed, Becomes, Empty, Last, Apart, Kerned, Joined}

-- what the items of a pair and its rest are, by the size of the op of its command: those of what is ahead, behind others
BySize : (m : Metrics) → Bool → Word → Piece → Piece → List Piece → List LigItem → Type 0
BySize m true w current next rest items = (others : List LigItem) × Becomes m (ahead w current next rest) others × (items ≡ passed w current next ++ others)
BySize m false w current next rest items = (others : List LigItem) × Becomes m (next ∷ rest) others × (items ≡ items_of current ++ Kern (kern_of m w) ∷ others)

ByCommand : (m : Metrics) → Option Word → Piece → Piece → List Piece → List LigItem → Type 0
ByCommand m None current next rest items = (others : List LigItem) × Becomes m (next ∷ rest) others × (items ≡ items_of current ++ others)
ByCommand m (Some w) current next rest items = BySize m (ltb w.c 128) w current next rest items

-- what the items of pieces are
ByPieces : (m : Metrics) → List Piece → List LigItem → Type 0
ByPieces m [] items = items ≡ []
ByPieces m (piece ∷ []) items = items ≡ items_of piece
ByPieces m (current ∷ next ∷ rest) items = ByCommand m (command_of m.file (code_of current) (code_of next)) current next rest items

inverted : (m : Metrics) (pieces : List Piece) (items : List LigItem) → Becomes m pieces items → ByPieces m pieces items
unfolding ByPieces ByCommand BySize
inverted m pieces items Empty = refl
inverted m pieces items (Last piece) = refl
inverted m pieces items (Apart current next rest others none b) =
    subst (λ (o : Option Word). ByCommand m o current next rest (items_of current ++ others)) (sym none) (others, b, refl)
inverted m pieces items (Kerned current next rest others w is great b) =
    subst (λ (o : Option Word). ByCommand m o current next rest (items_of current ++ Kern (kern_of m w) ∷ others)) (sym is)
    (subst (λ (x : Bool). BySize m x w current next rest (items_of current ++ Kern (kern_of m w) ∷ others)) (sym (le-ltb w.c 128 great)) (others, b, refl))
inverted m pieces items (Joined current next rest others w is small b) =
    subst (λ (o : Option Word). ByCommand m o current next rest (passed w current next ++ others)) (sym is)
    (subst (λ (x : Bool). BySize m x w current next rest (passed w current next ++ others)) (sym (lt-ltb w.c 128 small)) (others, b, refl))

pub once : (m : Metrics) (pieces : List Piece) (items : List LigItem) → Becomes m pieces items → (others : List LigItem) → Becomes m pieces others → items ≡ others
unfolding ByPieces ByCommand BySize
once m pieces items Empty others h = sym (inverted m [] others h)
once m pieces items (Last piece) others h = sym (inverted m (piece ∷ []) others h)
once m pieces items (Apart current next rest more none b) others h =
    let k : ByCommand m None current next rest others = subst (λ (o : Option Word). ByCommand m o current next rest others) none (inverted m (current ∷ next ∷ rest) others h) in
    ap (λ (x : List LigItem). items_of current ++ x) (once m (next ∷ rest) more b k.0 k.1) ∙ sym k.2
once m pieces items (Kerned current next rest more w is great b) others h =
    let by : ByCommand m (Some w) current next rest others = subst (λ (o : Option Word). ByCommand m o current next rest others) is (inverted m (current ∷ next ∷ rest) others h) in
    let k : BySize m false w current next rest others = subst (λ (x : Bool). BySize m x w current next rest others) (le-ltb w.c 128 great) by in
    ap (λ (x : List LigItem). items_of current ++ Kern (kern_of m w) ∷ x) (once m (next ∷ rest) more b k.0 k.1) ∙ sym k.2
once m pieces items (Joined current next rest more w is small b) others h =
    let by : ByCommand m (Some w) current next rest others = subst (λ (o : Option Word). ByCommand m o current next rest others) is (inverted m (current ∷ next ∷ rest) others h) in
    let k : BySize m true w current next rest others = subst (λ (x : Bool). BySize m x w current next rest others) (lt-ltb w.c 128 small) by in
    ap (λ (x : List LigItem). passed w current next ++ x) (once m (ahead w current next rest) more b k.0 k.1) ∙ sym k.2
