use Rattle.std.proofs.Common.{refl, sym}
use Rattle.tx_hyphen.proofs.Paths.{path-hung, path-step}
use Rattle.tx_hyphen.proofs.trie.node_for.Goals as goal
use Rattle.tx_hyphen.proofs.trie.node_for.Goals.{in-Some, in-None+in_ok-at-in-None}

pub loop-letter-preserved : goal.loop-letter-preserved
loop-letter-preserved c =
    elim c.match-child_in.branch [
      | in-Some w ↦
          rw (w.nodes-is, w.at-is)
          (path-step c.args.nodes.now.items c.loop-letter.nodes.items c.args.letters.now c.loop-letter.letter-index
          c.loop-letter.at _ w.in-Some.child c.loop-letter-test.true c.loop-letter.invariant refl
          (sym (rw c.as_slice.ensures.value at w.in-Some.ensures.child)))
      | in-None+in_ok-at-in-None w ↦
          rw (w.nodes-is, w.at-is, w.in_ok-at-in-None.ensures.ok, w.in_ok-at-in-None.ensures.number)
          (path-hung c.args.nodes.now.items c.loop-letter.nodes.items c.args.letters.now c.loop-letter.letter-index
          c.loop-letter.at _ c.loop-letter-test.true c.loop-letter.invariant refl
          (sym (rw c.as_slice.ensures.value at w.in-None.ensures.child)))
    ]
