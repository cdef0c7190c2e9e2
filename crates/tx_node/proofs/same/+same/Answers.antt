use Rattle.std.proofs.Common.{ℕ, ◌<◌, ◌≡◌, subst, sym, ap, ◌∙◌, arith}
use Rattle.std.proofs.lemmas.Grind.{common_steps}
use Rattle.tx_node.specs.Nodes.{item_of}
use Rattle.tx_node.proofs.Equal.{differ, same-adjustments, same-box-leaders, same-boxes, same-discretionaries, same-insertions, same-lists}
use Rattle.tx_node.proofs.Measures.{node_measure, to-item}
use Rattle.tx_node.proofs.same.+same.Goals as goal

pub same_list-same_node-requires : goal.same_list-same_node-requires
same_list-same_node-requires t c =
    (subst (λ (n : ℕ). node_measure c.index-a-i.result < n) c.decreases (to-item c.args.a.now c.loop-i.i c.loop-i-test.true c.index-a-i.is), tt)

pub same_list-returns-then-not-same_node : goal.same_list-returns-then-not-same_node
same_list-returns-then-not-same_node t c = (
  (λ h. absurd (cc h)),
  differ c.args.a.now c.args.b.now c.loop-i.i c.loop-i-test.true c.loop-i.invariant.long c.index-a-i.is c.index-b-i.is c.if-not-same_node.true c.same_node.ensures.1,
)

pub same_box-returns : goal.same_box-returns
same_box-returns t c =
    same-lists c.args.a.now c.args.b.now c.list.ensures c.list-2.ensures (sym c.head.ensures ∙ c.same_head.ensures.0 c.if-not-same_head.false ∙ c.head-2.ensures) c.same_list.ensures

pub same_node-returns-then-s-t : goal.same_node-returns-then-s-t
same_node-returns-then-s-t t c =
    let shifts : c.in-Box-Box.s ≡ c.in-Box-Box.t = grind (arith, common_steps) in
    same-boxes c.in-Box-Box.s c.in-Box-Box.t c.deref-then-s-t.result.now c.deref-then-s-t-2.result.now
    (rw c.deref-then-s-t.ensures (ap item_of c.in-Box-Box.is-0)) (rw c.deref-then-s-t-2.ensures (ap item_of c.in-Box-Box.is-1))
    shifts c.same_box.ensures

pub same_node-returns-in-Discretionary-Discretionary : goal.same_node-returns-in-Discretionary-Discretionary
same_node-returns-in-Discretionary-Discretionary t c =
    same-discretionaries c.deref-in-Discretionary-Discretionary.result.now c.deref-in-Discretionary-Discretionary-2.result.now
    (rw c.deref-in-Discretionary-Discretionary.ensures (ap item_of c.in-Discretionary-Discretionary.is-0)) (rw c.deref-in-Discretionary-Discretionary-2.ensures (ap item_of c.in-Discretionary-Discretionary.is-1))
    c.same_discretionary.ensures

pub same_node-returns-in-Adjustment-Adjustment : goal.same_node-returns-in-Adjustment-Adjustment
same_node-returns-in-Adjustment-Adjustment t c =
    same-adjustments c.deref-in-Adjustment-Adjustment.result.now c.deref-in-Adjustment-Adjustment-2.result.now
    (rw c.deref-in-Adjustment-Adjustment.ensures (ap item_of c.in-Adjustment-Adjustment.is-0)) (rw c.deref-in-Adjustment-Adjustment-2.ensures (ap item_of c.in-Adjustment-Adjustment.is-1))
    c.same_sublist.ensures

pub same_node-returns-in-Insertion-Insertion : goal.same_node-returns-in-Insertion-Insertion
same_node-returns-in-Insertion-Insertion t c =
    same-insertions c.deref-in-Insertion-Insertion.result.now c.deref-in-Insertion-Insertion-2.result.now
    (rw c.deref-in-Insertion-Insertion.ensures (ap item_of c.in-Insertion-Insertion.is-0)) (rw c.deref-in-Insertion-Insertion-2.ensures (ap item_of c.in-Insertion-Insertion.is-1))
    c.same_insertion.ensures

pub same_node-returns-in-BoxLeaders-BoxLeaders : goal.same_node-returns-in-BoxLeaders-BoxLeaders
same_node-returns-in-BoxLeaders-BoxLeaders t c =
    same-box-leaders c.deref-in-BoxLeaders-BoxLeaders.result.now c.deref-in-BoxLeaders-BoxLeaders-2.result.now
    (rw c.deref-in-BoxLeaders-BoxLeaders.ensures (ap item_of c.in-BoxLeaders-BoxLeaders.is-0)) (rw c.deref-in-BoxLeaders-BoxLeaders-2.ensures (ap item_of c.in-BoxLeaders-BoxLeaders.is-1))
    c.same_box_leaders.ensures
