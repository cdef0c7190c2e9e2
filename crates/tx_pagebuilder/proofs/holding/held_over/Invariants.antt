use Rattle.std.proofs.Common.{◌≡◌, [], drop}
use Rattle.tx_node.specs.Nodes.{list_of}
use Rattle.tx_pagebuilder.specs.Fired.{held_from}
use Rattle.tx_pagebuilder.proofs.holding.held_over.Given as goal

abbrev pub invariant-loop-place : goal.invariant-loop-place
invariant-loop-place l = held_from l.classes l.place l.held (list_of (drop l.place l.above)) ≡ held_from l.classes 0 [] (list_of l.above)
