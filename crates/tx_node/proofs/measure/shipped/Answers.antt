use Rattle.std.proofs.Common.{◌≡◌, ◌∙◌, ℕ, ap, arith}
use Rattle.tx_node.specs.Counts.{ended}
use Rattle.tx_node.specs.Nodes.{item_of}
use Rattle.tx_node.specs.Setting.{Reach, behind, reach_of}
use Rattle.tx_node.specs.Shipped.{item_shipped}
use Rattle.tx_node.proofs.Reaches.{shipped-on, sums-on}
use Rattle.tx_node.proofs.measure.shipped.Goals as goal

pub copies-copies-requires-clause-to_sum : goal.copies-copies-requires-clause-to_sum
copies-copies-requires-clause-to_sum c =
    (sums-on c.args.list.now c.loop-node.node-index c.args.head.direction c.args.head.setting (reach_of c.loop-node.reached) c.loop-node-test.true c.node-item.is
    (ap (λ (r : Reach). r.sum) c.behind-next.ensures.value) c.loop-node.invariant.sums).0

pub loop-node-preserved : goal.loop-node-preserved
loop-node-preserved c =
    let reach : Reach = reach_of c.loop-node.reached in
    let next_is : reach_of c.behind-next.result ≡ behind c.args.head.direction c.args.head.setting reach (item_of c.node-item.result) = c.behind-next.ensures.value in
    let shipped_is = c.shipped.ensures ∙ ap (λ (n : ℕ). ended (item_shipped n (item_of c.node-item.result))) c.copies-copies.ensures in
    let sums = sums-on c.args.list.now c.loop-node.node-index c.args.head.direction c.args.head.setting reach c.loop-node-test.true c.node-item.is (ap (λ (r : Reach). r.sum) next_is) c.loop-node.invariant.sums in
    record {
      sums = sums.1;
      small = sums.0;
      natural = omega (arith, c.behind-next.ensures.near, c.loop-node.invariant.natural);
      within = omega arith;
      shipped = shipped-on c.args.list.now c.loop-node.node-index c.args.head.direction c.args.head.setting reach c.loop-node-test.true c.node-item.is c.loop-node.sum next_is shipped_is c.saturating_add-sum.ensures c.loop-node.invariant.shipped;
    }
