-- Lists of nodes, as lists of their items.
use Rattle.std.proofs.Common.{◌≡◌, ℕ, min, List, [], ◌∷◌, length, take, drop, refl, sym, ap, ◌∙◌}
use Rattle.std.proofs.lemmas.List.{take_min, drop_min, take-map, drop-map}
use Rattle.tx_node.specs.declared.node.Node.{Node}
use Rattle.tx_node.specs.Items.{Item, items_of}
use Rattle.tx_node.specs.Nodes.{item_of, list_of}
use Rattle.tx_pagebuilder.specs.Contributed.{list_from}

-- the list of an item is the one that it was made of
pub listed : (list : List Item) → list_from (items_of list) ≡ list
listed [] = refl
listed (item ∷ rest) = ap (λ (xs : List Item). item ∷ xs) (listed rest)

-- the two parts of a list at a place that is held within it
pub taken : (n : ℕ) (xs : List Node) → list_of (take (min n (length xs)) xs) ≡ take n (list_of xs)
taken n xs = ap (λ (ys : List Node). list_of ys) (take_min n xs) ∙ sym (take-map item_of n xs)

pub dropped : (n : ℕ) (xs : List Node) → list_of (drop (min n (length xs)) xs) ≡ drop n (list_of xs)
dropped n xs = ap (λ (ys : List Node). list_of ys) (drop_min n xs) ∙ sym (drop-map item_of n xs)
