-- What nodes and boxes are in code.
use Rattle.std.specs.Prelude.{◌≡◌, ◌≤◌, ℕ, suc, Bool, true, pos, List, map}
use Rattle.tx_node.specs.declared.head.BoxHead.{BoxHead}
use Rattle.tx_node.specs.declared.node.Node.{Node}
use Rattle.tx_node.specs.declared.node.Node.TheVariants.{Plain, Shared, Box, Discretionary, Adjustment, Insertion, BoxLeaders}
use Rattle.tx_node.specs.Items.{Item, plain, shared, discretionary, adjustment, insertion, box_item, leaders_item, items_of}
use Rattle.tx_node.specs.Counts.{nesting_of, count_of, ended}
use Rattle.tx_node.specs.Setting.{IsSet, begun, sums_fit}
use Rattle.tx_node.specs.Shipped.{leads_boxes, shipped_of}

-- the item that a node is
abbrev pub item_of : Node → Item
item_of (Plain p) = plain p
item_of (Shared s) = shared s.value
item_of (Box shift b) = box_item shift b.value
item_of (Discretionary d) = discretionary d.value.head (items_of d.value.before) (items_of d.value.behind)
item_of (Adjustment a) = adjustment (items_of a.value)
item_of (Insertion n) = insertion n.value.head (items_of n.value.list)
item_of (BoxLeaders l) = leaders_item l.value.head l.value.inner

-- the list that nodes are
abbrev pub list_of : List Node → List Item
list_of nodes = map item_of nodes

-- what holds of the list and the head of each box: boxes nest at most 500 deep, and its glue is set by what it has of it
pub record IsBox (head : BoxHead) (list : List Item) : Type 0 where
  pub nesting : suc (nesting_of (items_of list)) ≤ 500
  pub is_set : IsSet head.setting
  pub sums : sums_fit head.setting (pos 0) (items_of list) ≡ true

-- what a box keeps beside its list: how deep it nests, its count of nodes, that of those that are shipped of it, and whether the list has
-- leaders of a box
pub record IsKept (head : BoxHead) (nesting count shipped : ℕ) (leads : Bool) (list : List Item) : Type 0 where
  pub nesting_is : nesting ≡ suc (nesting_of (items_of list))
  pub count_is : count ≡ ended (suc (count_of (items_of list)))
  pub shipped_is : shipped ≡ ended (suc (shipped_of head.direction head.setting begun (items_of list)))
  pub leads_is : leads ≡ leads_boxes (items_of list)
  pub is_box : IsBox head list

-- what any other list that a node has keeps beside it
pub record IsSublist (nesting count : ℕ) (list : List Item) : Type 0 where
  pub nesting_is : nesting ≡ nesting_of (items_of list)
  pub count_is : count ≡ ended (count_of (items_of list))
  pub nesting_in : nesting ≤ 500
