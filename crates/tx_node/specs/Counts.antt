-- How deep boxes nest, and how many nodes they hold.
use Rattle.std.specs.Prelude.{ℕ, suc, ◌+◌, ◌-◌, ◌^◌, min, max, List}
use Rattle.tx_node.specs.Items.{Item, Items, none, more, plain, shared, boxed, discretionary, adjustment, insertion, box_leaders, PackedBox, items_of}

-- how deep boxes nest in a list: 0 where there is none, 1 where no box has a box in it
abbrev mutual
  pub nesting_of : Items → ℕ
  nesting_of none = 0
  nesting_of (more item rest) = max (item_nesting item) (nesting_of rest)

  pub item_nesting : Item → ℕ
  item_nesting (plain p) = 0
  item_nesting (shared s) = 0
  item_nesting (boxed shift head inner) = suc (nesting_of inner)
  item_nesting (discretionary head before behind) = max (nesting_of before) (nesting_of behind)
  item_nesting (adjustment inner) = nesting_of inner
  item_nesting (insertion head inner) = nesting_of inner
  item_nesting (box_leaders head repeated inner) = suc (nesting_of inner)

-- how many nodes a list holds, with all that their lists hold; what has a list is a node itself, and so is the box of leaders
abbrev mutual
  pub count_of : Items → ℕ
  count_of none = 0
  count_of (more item rest) = item_count item + count_of rest

  pub item_count : Item → ℕ
  item_count (plain p) = 1
  item_count (shared s) = 1
  item_count (boxed shift head inner) = suc (count_of inner)
  item_count (discretionary head before behind) = suc (count_of before + count_of behind)
  item_count (adjustment inner) = suc (count_of inner)
  item_count (insertion head inner) = suc (count_of inner)
  item_count (box_leaders head repeated inner) = suc (suc (count_of inner))

-- the same of a box, itself counted
abbrev pub box_nesting : PackedBox → ℕ
box_nesting b = suc (nesting_of (items_of b.list))

abbrev pub box_count : PackedBox → ℕ
box_count b = suc (count_of (items_of b.list))

-- more than each list in a list counts
abbrev pub list_size : List Item → ℕ
list_size list = suc (count_of (items_of list))

-- where counts end
abbrev pub ended : ℕ → ℕ
ended n = min n (2 ^ 64 - 1)
