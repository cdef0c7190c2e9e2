use Rattle.std.proofs.Common.{◌≡◌, ◌++◌}
use Rattle.tx_node.specs.Nodes.{list_of}
use Rattle.tx_hyphenate.specs.Hyphenated.{finished, hyphenated, joined, parted_at_glue, ways}
use Rattle.tx_hyphenate.proofs.hyphenate.made_of.Given as goal

abbrev pub invariant-loop-node : goal.invariant-loop-node
invariant-loop-node l =
    let w = ways l.fonts l.hyphens l.lower l.params in
    let behind = parted_at_glue w l.formula (list_of l.node-iterator.rest.items) in
    joined (joined l.made (finished w l.behind_glue (l.items ++ behind.first))) behind.rest ≡ hyphenated w l.fn.list
