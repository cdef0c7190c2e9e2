use Rattle.std.proofs.Common.{◌≡◌, ◌++◌, drop}
use Rattle.std.specs.List.{flat_map}
use Rattle.tx_node.specs.Nodes.{list_of}
use Rattle.tx_hyphenate.specs.Letters.{codes_of}
use Rattle.tx_hyphenate.proofs.find.codes_of.Given as goal

abbrev pub invariant-loop-node : goal.invariant-loop-node
invariant-loop-node l =
    l.codes ++ flat_map codes_of (list_of (drop l.node-index l.nodes)) ≡ flat_map codes_of (list_of l.nodes)
