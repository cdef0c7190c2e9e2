use Rattle.std.proofs.Common.{◌≡◌, drop}
use Rattle.tx_node.specs.Nodes.{list_of}
use Rattle.tx_node.specs.Items.{items_of}
use Rattle.tx_node.specs.Shipped.{leads_boxes}
use Rattle.tx_node.proofs.measure.leads.Given as goal

abbrev pub invariant-loop-node : goal.invariant-loop-node
invariant-loop-node l = leads_boxes (items_of (list_of (drop l.node-index l.list))) ≡ leads_boxes (items_of (list_of l.list))
