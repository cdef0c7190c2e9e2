-- Lists by their last items.
use Rattle.std.proofs.Common.{◌≡◌, ◌∙◌, ◌-◌, ◌++◌, ◌∷◌, [], List, length, take, refl, ap, sym, arith}
use Rattle.std.specs.Prelude.{slice_get, option_map}
use Rattle.std.proofs.lemmas.List.{length-append, length-map}
use Rattle.std.proofs.lemmas.Option.{slice_get-map}
use Rattle.std.proofs.Math.Seq.{take-append_seam}
use Rattle.tx_node.specs.declared.node.Node.{Node}
use Rattle.tx_node.specs.Items.{Item, items_of}
use Rattle.tx_node.specs.Nodes.{item_of, list_of}
use Rattle.tx_nest.specs.Lasts.{list_from}

one_less : (list : List Item) (item : Item) → length (list ++ item ∷ []) - 1 ≡ length list
one_less list item = omega (arith, length-append list (item ∷ []))

-- without the item that was put at the end a list is as before
pub shortened_more : (list : List Item) (item : Item) → take (length (list ++ item ∷ []) - 1) (list ++ item ∷ []) ≡ list
shortened_more list item = ap (λ n. take n (list ++ item ∷ [])) (one_less list item) ∙ take-append_seam list (item ∷ [])

-- the last node is the last item
pub last_is : (nodes : List Node) (list : List Item) → list_of nodes ≡ list → option_map item_of (slice_get nodes (length nodes - 1)) ≡ slice_get list (length list - 1)
last_is nodes list is =
    sym (slice_get-map item_of nodes (length nodes - 1))
    ∙ ap (λ n. slice_get (list_of nodes) (n - 1)) (sym (length-map nodes item_of))
    ∙ ap (λ l. slice_get l (length l - 1)) is

-- the items of a list that an item has are the list that they were made of
pub listed : (list : List Item) → list_from (items_of list) ≡ list
listed [] = refl
listed (item ∷ rest) = ap (λ more. item ∷ more) (listed rest)
