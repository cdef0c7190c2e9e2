-- A list holds more than each list in it.
use Rattle.std.specs.Prelude.{◌≤◌, suc, max, List, [], ◌∷◌}
use Rattle.std.proofs.Common.{arith}
use denote.Param.Weighed.{most}
use Rattle.tx_node.specs.declared.node.Node.{Node}
use Rattle.tx_node.specs.declared.node.Node.TheVariants.{Plain, Shared, Box, Discretionary, Adjustment, Insertion, BoxLeaders}
use Rattle.tx_node.specs.declared.node.BoxNode.TheDeep.{deep-Node}
use Rattle.tx_node.specs.Items.{items_of}
use Rattle.tx_node.specs.Counts.{count_of}
use Rattle.tx_node.specs.Nodes.{list_of}

pub falls : (nodes : List Node) → max (most deep-Node nodes) 0 ≤ suc (count_of (items_of (list_of nodes)))
falls [] = omega arith
falls (Plain p ∷ rest) = omega (arith, falls rest)
falls (Shared s ∷ rest) = omega (arith, falls rest)
falls (Box shift b ∷ rest) = omega (arith, falls rest)
falls (Discretionary d ∷ rest) = omega (arith, falls rest)
falls (Adjustment a ∷ rest) = omega (arith, falls rest)
falls (Insertion n ∷ rest) = omega (arith, falls rest)
falls (BoxLeaders l ∷ rest) = omega (arith, falls rest)
