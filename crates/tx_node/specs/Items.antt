-- Lists, boxes in them, and what these are in code (TeX: The Program, part 10).
use Rattle.std.specs.Prelude.{ℤ, List, [], ◌∷◌}
use Rattle.tx_node.specs.declared.head.BoxHead.{BoxHead}
use Rattle.tx_node.specs.declared.head.BreakHead.{BreakHead}
use Rattle.tx_node.specs.declared.head.InsertHead.{InsertHead}
use Rattle.tx_node.specs.declared.head.LeadersHead.{LeadersHead}
use Rattle.tx_node.specs.declared.plain.Plain.{Plain}
use Rattle.tx_node.specs.declared.plain.Shared.{Shared}

-- an item of a list: one without a list of its own, small or large; a box, which is shifted by so many sp (down in a
-- horizontal list, to the right in a vertical one) and has a head and the list that it was made of; a discretionary, with its
-- texts before and behind a break (section 145); the vertical list of a \vadjust (section 142); an insertion and its
-- vertical list (section 140); or leaders and the box of which they are copies, by its head and its list (section 149)
mutual
  pub data Item : Type 0 where
    plain : Plain → Item
    shared : Shared → Item
    boxed : ℤ → BoxHead → Items → Item
    discretionary : BreakHead → Items → Items → Item
    adjustment : Items → Item
    insertion : InsertHead → Items → Item
    box_leaders : LeadersHead → BoxHead → Items → Item

  -- items in their order: none, or one and those behind it
  pub data Items : Type 0 where
    none : Items
    more : Item → Items → Items

-- a box by itself, which isn't shifted
pub record PackedBox : Type 0 where
  pub head : BoxHead
  pub list : List Item

-- a list, as the items of a box
abbrev pub items_of : List Item → Items
items_of [] = none
items_of (item ∷ rest) = more item (items_of rest)

-- a box, as an item that is shifted by so much
abbrev pub box_item : ℤ → PackedBox → Item
box_item shift b = boxed shift b.head (items_of b.list)

-- leaders of a box
abbrev pub leaders_item : LeadersHead → PackedBox → Item
leaders_item head b = box_leaders head b.head (items_of b.list)
