use Rattle.std.proofs.Common.{◌≡◌, ◌++◌, drop}
use Rattle.tx_node.specs.Nodes.{list_of}
use Rattle.tx_pagebuilder.specs.Fired.{joining_from}
use Rattle.tx_pagebuilder.proofs.joining.join_all.Given as goal

abbrev pub invariant-loop-place : goal.invariant-loop-place
invariant-loop-place l = l.list ++ joining_from l.class.number l.class.split l.place (list_of (drop l.place l.above)) ≡ l.initial.list ++ joining_from l.class.number l.class.split 0 (list_of l.above)
