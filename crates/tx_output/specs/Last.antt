-- The last node that was contributed to the page (TeX: The Program, sections 991 and 996).
use Rattle.tx_node.specs.Items.{Item, plain, shared, boxed, discretionary, adjustment, insertion, box_leaders}
use Rattle.tx_node.specs.declared.plain.Plain.{Plain}
use Rattle.tx_node.specs.declared.plain.Plain.TheVariants as small
use Rattle.tx_node.specs.declared.plain.Shared.{Shared}
use Rattle.tx_node.specs.declared.plain.Shared.TheVariants as large
use Rattle.tx_output.specs.declared.last.LastItem.{LastItem}
use Rattle.tx_output.specs.declared.last.LastItem.TheVariants.{Penalty, Kern, Skip, Other}

abbrev pub plain_item : Plain → LastItem
plain_item (small.Penalty n) = Penalty n
plain_item (small.Kern kind size) = Kern size
plain_item (small.Glue g) = Skip g
plain_item (small.Character c) = Other

-- leaders count as their glue
abbrev pub larger_item : Shared → LastItem
larger_item (large.Leaders l) = Skip l.glue
larger_item (large.Rule r) = Other
larger_item (large.Special text) = Other
larger_item (large.Ligature l) = Other
larger_item (large.Mark text) = Other

abbrev pub last_item : Item → LastItem
last_item (plain p) = plain_item p
last_item (shared s) = larger_item s
last_item (boxed shift head inner) = Other
last_item (discretionary head before behind) = Other
last_item (adjustment inner) = Other
last_item (insertion head inner) = Other
last_item (box_leaders head repeated inner) = Skip head.glue
