-- Copies, and boxes that are shipped, which are turns of their own and cost the nodes that they are.
use Rattle.std.specs.Prelude.{ℕ, max}
use Rattle.tx_node.specs.Counts.{box_count, count_of, ended}
use Rattle.tx_node.specs.Items.{items_of}
use Rattle.tx_node.specs.Shipped.{box_shipped}
use Rattle.tx_box.specs.declared.parts.Work.{Work}
use Rattle.tx_box.specs.declared.parts.Work.TheVariants.{Copy, CopyList, Ship, ShipPage, Build}

-- a box is a node itself and counts with all that it holds, and where it is shipped with each copy that leaders make; of a list what is in
-- it counts, but a turn costs something
abbrev pub work_cost : Work → ℕ
work_cost (Copy b target) = ended (box_count b)
work_cost (CopyList list) = max 1 (ended (count_of (items_of list)))
work_cost (Ship b) = ended (box_shipped b)
work_cost (ShipPage b) = ended (box_shipped b)
work_cost Build = 1
