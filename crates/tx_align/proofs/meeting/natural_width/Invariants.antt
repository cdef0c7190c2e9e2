use Rattle.std.proofs.Common.{◌≡◌, pos, drop}
use Rattle.tx_node.specs.Nodes.{list_of}
use Rattle.tx_align.specs.Entries.{width_from}
use Rattle.tx_align.proofs.meeting.natural_width.Given as goal

abbrev pub invariant-loop-node : goal.invariant-loop-node
invariant-loop-node l = width_from l.width (list_of (drop l.node-index l.list)) ≡ width_from (pos 0) (list_of l.list)
