use Rattle.std.proofs.Common.{◌≡◌, ℕ, ◌<◌, ◌∙◌, pos, ap, arith, subst}
use Rattle.tx_node.specs.Items.{items_of}
use Rattle.tx_node.specs.Counts.{nesting_of}
use Rattle.tx_node.specs.Nodes.{item_of, list_of}
use Rattle.tx_node.specs.Setting.{Reach, behind, reach_of, sums_fit}
use Rattle.tx_node.proofs.Measures.{list_measure, node_measure, to-item, to-list}
use Rattle.tx_node.proofs.Reaches as reaches
use Rattle.tx_ship.proofs.Levels.{level-on, nesting-on}
use Rattle.tx_ship.proofs.level.+level.Goals as goal

pub list_level-node_level-requires : goal.list_level-node_level-requires
list_level-node_level-requires t c =
    (subst (λ (n : ℕ). node_measure c.node-item.result < n) c.decreases (to-item c.args.list.now c.loop-node.node-index c.loop-node-test.true c.node-item.is), tt)

pub alone_level-node_level-requires : goal.alone_level-node_level-requires
alone_level-node_level-requires t c =
    (subst (λ (n : ℕ). node_measure c.node-item.result < n) c.decreases (to-item c.args.list.now c.loop-node.node-index c.loop-node-test.true c.node-item.is), tt)

pub level_inside-list_level-requires : goal.level_inside-list_level-requires
level_inside-list_level-requires t c = (
  subst (λ (n : ℕ). list_measure c.list-nodes.result.now < n) c.decreases (to-list c.args.inner.now c.list-nodes.result.now c.list-nodes.ensures),
  (c.head_of.ensures.is_set, (λ i. sums_fit c.head_of.result.setting (pos 0) (items_of (c.list-nodes.ensures i))) ∙ c.head_of.ensures.sums),
)

pub level_inside-alone_level-requires : goal.level_inside-alone_level-requires
level_inside-alone_level-requires t c =
    (subst (λ (n : ℕ). list_measure c.list-nodes.result.now < n) c.decreases (to-list c.args.inner.now c.list-nodes.result.now c.list-nodes.ensures), tt)

pub list_level-copies-copies-requires-clause-to_sum : goal.list_level-copies-copies-requires-clause-to_sum
list_level-copies-copies-requires-clause-to_sum t c =
    (reaches.sums-on c.args.list.now c.loop-node.node-index c.args.head.direction c.args.head.setting (reach_of c.loop-node.reached) c.loop-node-test.true c.node-item.is
    (ap (λ (r : Reach). r.sum) c.behind-next.ensures.value) c.loop-node.invariant.sums).0

pub list_level-loop-node-preserved : goal.list_level-loop-node-preserved
list_level-loop-node-preserved t c =
    let head = c.args.head in
    let reach : Reach = reach_of c.loop-node.reached in
    let next_is : reach_of c.behind-next.result ≡ behind head.direction head.setting reach (item_of c.node-item.result) = c.behind-next.ensures.value in
    let sums = reaches.sums-on c.args.list.now c.loop-node.node-index head.direction head.setting reach c.loop-node-test.true c.node-item.is (ap (λ (r : Reach). r.sum) next_is) c.loop-node.invariant.sums in
    record {
      sums = sums.1;
      small = sums.0;
      natural = omega (arith, c.behind-next.ensures.near, c.loop-node.invariant.natural);
      level = level-on c.args.list.now c.loop-node.node-index c.loop-node-test.true c.node-item.is head.direction head.setting reach c.loop-node.most next_is c.copies-copies.ensures c.node_level.ensures.value c.max-most.ensures c.loop-node.invariant.level;
      within = nesting-on c.args.list.now c.loop-node.node-index c.loop-node-test.true c.node-item.is c.loop-node.most c.node_level.result (nesting_of (items_of (list_of c.args.list.now))) c.node_level.ensures.within c.max-most.ensures c.loop-node.invariant.within;
    }
