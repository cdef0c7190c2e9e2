-- How many nodes are shipped of a list: those of each copy that leaders make of a box.
use Rattle.std.specs.Prelude.{ℕ, suc, ◌+◌, ◌*◌, ◌-ℤ◌, Bool, true, false, ◌||◌}
use Rattle.tx_node.specs.declared.head.Direction.{Direction}
use Rattle.tx_node.specs.declared.head.Setting.{Setting}
use Rattle.tx_node.specs.Items.{Item, Items, none, more, plain, shared, boxed, discretionary, adjustment, insertion, box_leaders, PackedBox, items_of}
use Rattle.tx_node.specs.Counts.{count_of}
use Rattle.tx_node.specs.Setting.{Reach, begun, behind, stands}
use Rattle.tx_node.specs.Sizes.{box_advance}
use Rattle.tx_node.specs.Copies.{copies_of}

-- how many copies an item makes that reaches from here to there; only leaders of a box make any
unfoldable pub copies_made : Direction → Setting → Reach → Reach → Item → ℕ
copies_made direction setting from to (box_leaders head repeated inner) =
    (copies_of head.kind (stands setting from) (stands setting to -ℤ stands setting from) (box_advance direction repeated)).count
copies_made direction setting from to other = 0

-- how many nodes are shipped of a list whose glue is set so, from an item on which stands there; of an item, by how many copies it
-- makes. What has a list and is no box counts with all that it holds
abbrev mutual
  pub shipped_of : Direction → Setting → Reach → Items → ℕ
  shipped_of direction setting reach none = 0
  shipped_of direction setting reach (more item rest) =
      item_shipped (copies_made direction setting reach (behind direction setting reach item) item) item
      + shipped_of direction setting (behind direction setting reach item) rest

  pub item_shipped : ℕ → Item → ℕ
  item_shipped copies (plain p) = 1
  item_shipped copies (shared s) = 1
  item_shipped copies (boxed shift head inner) = suc (shipped_of head.direction head.setting begun inner)
  item_shipped copies (discretionary head before after) = suc (count_of before + count_of after)
  item_shipped copies (adjustment inner) = suc (count_of inner)
  item_shipped copies (insertion head inner) = suc (count_of inner)
  item_shipped copies (box_leaders head repeated inner) = suc (copies * suc (shipped_of repeated.direction repeated.setting begun inner))

-- whether a list has leaders of a box: by them alone it depends on places how many nodes are shipped of it
abbrev pub is_leading : Item → Bool
is_leading (box_leaders head repeated inner) = true
is_leading other = false

abbrev pub leads_boxes : Items → Bool
leads_boxes none = false
leads_boxes (more item rest) = is_leading item || leads_boxes rest

-- how many nodes are shipped where none of its items makes a copy
abbrev pub alone_shipped : Items → ℕ
alone_shipped none = 0
alone_shipped (more item rest) = item_shipped 0 item + alone_shipped rest

-- how many are shipped of a box, itself counted
abbrev pub box_shipped : PackedBox → ℕ
box_shipped b = suc (shipped_of b.head.direction b.head.setting begun (items_of b.list))
