-- What walks through boxes go down: five times the count of nodes, a list standing above its items, an item above the box that it is,
-- and this above what is put of it, one part after another.
use Rattle.std.proofs.Common.{◌≡◌, ℕ, zero, suc, ◌+◌, ◌*◌, ◌<◌, ◌≤◌, List, [], ◌∷◌, length, get_or, arith, subst, sym}
use Rattle.tx_node.specs.declared.node.BoxLeaders.{BoxLeaders}
use Rattle.tx_node.specs.declared.node.Discretionary.{Discretionary}
use Rattle.tx_node.specs.declared.node.Insertion.{Insertion}
use Rattle.tx_node.specs.declared.node.Node.{Node}
use Rattle.tx_node.specs.Items.{Item, PackedBox, items_of}
use Rattle.tx_node.specs.Nodes.{item_of, list_of}
use Rattle.tx_node.specs.Counts.{count_of, item_count, box_count}

abbrev pub list_measure : List Node → ℕ
list_measure xs = 5 * count_of (items_of (list_of xs)) + 4

abbrev pub node_measure : Node → ℕ
node_measure x = 5 * item_count (item_of x) + 3

abbrev pub box_measure : PackedBox → ℕ
box_measure b = 5 * box_count b + 2

abbrev pub framed_measure : PackedBox → ℕ
framed_measure b = 5 * box_count b + 1

abbrev pub inside_measure : PackedBox → ℕ
inside_measure b = 5 * box_count b

-- leaders of a box
abbrev pub leaders_measure : BoxLeaders → ℕ
leaders_measure l = 5 * box_count l.inner + 3

-- a list that is no box's, and what has one or two
abbrev pub sublist_measure : List Item → ℕ
sublist_measure list = 5 * count_of (items_of list) + 5

abbrev pub discretionary_measure : Discretionary → ℕ
discretionary_measure d = 5 * (count_of (items_of d.before) + count_of (items_of d.behind)) + 6

abbrev pub insertion_measure : Insertion → ℕ
insertion_measure n = 5 * count_of (items_of n.list) + 6

counts : (xs : List Node) (i : ℕ) (d : Node) → i < length xs → item_count (item_of (get_or xs i d)) ≤ count_of (items_of (list_of xs))
counts [] i d h = absurd (omega arith)
counts (x ∷ xs) zero d h = omega arith
counts (x ∷ xs) (suc i) d h = omega (arith, counts xs i d (omega arith))

-- from a list to one of its items
pub to-item : (xs : List Node) (i : ℕ) {x : Node} → i < length xs → x ≡ get_or xs i x → node_measure x < list_measure xs
to-item xs i {x} h is = subst (λ y. node_measure y < list_measure xs) (sym is) (omega (arith, counts xs i x h))

-- from a box to its list
pub to-list : (b : PackedBox) (xs : List Node) → list_of xs ≡ b.list → list_measure xs < inside_measure b
to-list b xs is = rw is (omega arith)
