-- Glue that is left natural.
use Rattle.std.proofs.Common.{◌≡◌, pos, true, List, [], ◌∷◌, refl}
use Rattle.tx_node.specs.declared.head.Setting.TheVariants.{Natural}
use Rattle.tx_node.specs.Items.{Item, items_of}
use Rattle.tx_node.specs.Setting.{sums_fit}

-- nothing of it is summed
pub natural_fits : (list : List Item) → sums_fit Natural (pos 0) (items_of list) ≡ true
natural_fits [] = refl
natural_fits (item ∷ rest) = natural_fits rest
