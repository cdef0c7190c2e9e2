use Rattle.tx_hyphen.proofs.Rows.{read-falls, read-found, read-next, row-start}
use Rattle.tx_hyphen.proofs.trie.child_in.Goals as goal

pub loop-next-init : goal.loop-next-init
loop-next-init c =
    rw c.node_at-next.ensures (row-start c.args.nodes.now c.args.parent c.args.letter c.requires.linked c.requires.inside)

pub returns-then-candidate-letter-clause-child : goal.returns-then-candidate-letter-clause-child
returns-then-candidate-letter-clause-child c =
    read-found c.args.nodes.now c.args.parent c.args.letter _ _ _ c.loop-next.invariant c.in-Some.is
    c.node_at-candidate.ensures c.if-candidate-letter.true

pub loop-next-smaller : goal.loop-next-smaller
loop-next-smaller c =
    read-falls c.args.nodes.now c.args.parent c.args.letter _ _ _ c.requires.linked c.loop-next.invariant c.in-Some.is
    c.node_at-candidate.ensures

pub loop-next-preserved : goal.loop-next-preserved
loop-next-preserved c =
    read-next c.args.nodes.now c.args.parent c.args.letter _ _ _ c.requires.linked c.loop-next.invariant c.in-Some.is
    c.node_at-candidate.ensures c.if-candidate-letter.false
