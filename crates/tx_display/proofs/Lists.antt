-- Items of boxes as lists, and the first of some nodes.
use Rattle.std.proofs.Common.{◌≡◌, ℕ, List, [], ◌∷◌, take, refl, ap, sym}
use Rattle.std.proofs.lemmas.List.{take-map}
use Rattle.tx_node.specs.declared.node.Node.{Node}
use Rattle.tx_node.specs.Items.{Item, items_of}
use Rattle.tx_node.specs.Nodes.{item_of, list_of}
use Rattle.tx_nest.specs.Lasts.{list_from}

-- the items of a box are the list that they were made of
pub listed : (list : List Item) → list_from (items_of list) ≡ list
listed [] = refl
listed (item ∷ rest) = ap (λ more. item ∷ more) (listed rest)

-- the first of some nodes are the first of their items
pub taken : (n : ℕ) (nodes : List Node) → list_of (take n nodes) ≡ take n (list_of nodes)
taken n nodes = sym (take-map item_of n nodes)
