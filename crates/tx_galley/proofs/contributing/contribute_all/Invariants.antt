use Rattle.std.proofs.Common.{◌≡◌, []}
use Rattle.tx_node.specs.Nodes.{list_of}
use Rattle.tx_pagebuilder.specs.declared.measures.Built.TheVariants.{Went}
use Rattle.tx_galley.specs.Contributing.{contributing_all, going_on}
use Rattle.tx_galley.proofs.contributing.contribute_all.Given as goal

-- what comes of the nodes that are left comes of all
abbrev pub invariant-loop-node : goal.invariant-loop-node
invariant-loop-node l = record {
  all : going_on l.table.table l.pages l.rest (list_of l.node-iterator.rest.items) l.built ≡ contributing_all l.table.table l.initial.pages l.fn.list;
  none : l.built ≡ Went → l.rest ≡ [];
}
