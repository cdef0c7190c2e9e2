use Rattle.std.proofs.Common.{◌≡◌, drop}
use Rattle.tx_node.specs.Nodes.{list_of}
use Rattle.tx_par.specs.LineLists.{with_items}
use Rattle.tx_par.proofs.line.Line.share_text.Given as goal

abbrev pub invariant-loop-node : goal.invariant-loop-node
invariant-loop-node l = with_items l.self (list_of (drop l.node-index l.text)) ≡ with_items l.initial.self (list_of l.text)
