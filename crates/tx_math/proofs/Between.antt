-- An item between two lists.
use Rattle.std.proofs.Common.{◌≡◌, List, [], ◌∷◌, ◌++◌, refl, ap}
use Rattle.tx_node.specs.Items.{Item}

pub between : (upper lower : List Item) (item : Item) → (upper ++ item ∷ []) ++ lower ≡ upper ++ item ∷ lower
between [] lower item = refl
between (a ∷ rest) lower item = ap (λ (more : List Item). a ∷ more) (between rest lower item)
