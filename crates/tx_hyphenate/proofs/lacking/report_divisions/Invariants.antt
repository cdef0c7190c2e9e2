use Rattle.std.proofs.Common.{◌≡◌, ◌++◌, drop}
use Rattle.std.specs.List.{flat_map}
use Rattle.tx_node.specs.Nodes.{list_of}
use Rattle.tx_hyphenate.specs.Lacking.{division_report, lacking_report}
use Rattle.tx_hyphenate.proofs.lacking.report_divisions.Given as goal

abbrev pub invariant-loop-node : goal.invariant-loop-node
invariant-loop-node l =
    let told = division_report (lacking_report l.fonts l.font l.lacking) in
    l.report ++ flat_map told (list_of (drop l.node-index l.nodes)) ≡ l.initial.report ++ flat_map told (list_of l.nodes)
