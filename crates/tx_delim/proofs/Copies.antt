-- Copies of an item at the end of a list.
use Rattle.std.proofs.Common.{◌≡◌, ◌<◌, ◌-◌, ℕ, zero, suc, List, [], ◌∷◌, ◌++◌, ◌∙◌, ap, append_assoc, append-nil, arith}
use Rattle.std.specs.Prelude.{replicate}
use Rattle.tx_node.specs.Items.{Item}

one_more : (list : List Item) (item : Item) (n : ℕ) → 0 < n → (list ++ item ∷ []) ++ replicate (n - 1) item ≡ list ++ replicate n item
one_more list item zero h = absurd (omega arith)
one_more list item (suc n) h =
    let one_less : suc n - 1 ≡ n = omega arith in
    ap (λ (k : ℕ). (list ++ item ∷ []) ++ replicate k item) one_less ∙ append_assoc list (item ∷ []) (replicate n item)

pub copies_on : (list list' : List Item) (item copy : Item) (n : ℕ) → 0 < n → copy ≡ item → list' ≡ list ++ copy ∷ []
    → list' ++ replicate (n - 1) item ≡ list ++ replicate n item
copies_on list list' item copy n h same is =
    ap (λ (l : List Item). l ++ replicate (n - 1) item) (is ∙ ap (λ (i : Item). list ++ i ∷ []) same) ∙ one_more list item n h

pub copies_over : (list : List Item) (item : Item) (n : ℕ) → n ≡ 0 → list ++ replicate n item ≡ list
copies_over list item zero h = append-nil list
copies_over list item (suc n) h = absurd (omega arith)
