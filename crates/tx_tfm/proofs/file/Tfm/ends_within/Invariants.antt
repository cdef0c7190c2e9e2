use Rattle.std.proofs.Common.{◌≡◌, ◌+◌, ◌*◌, ◌∷◌, [], reverse, vec_len}
use Rattle.tx_tfm.specs.Rewriting.{ends_within}
use Rattle.tx_tfm.proofs.file.Tfm.ends_within.Given as goal

abbrev pub invariant-loop-next : goal.invariant-loop-next
invariant-loop-next l =
    ends_within l.self l.remaining (l.current ∷ reverse l.rest.items) ≡ ends_within l.self l.limit (l.fn.left ∷ l.fn.right ∷ [])

abbrev pub decreases-loop-next : goal.decreases-loop-next
decreases-loop-next l = 2 * l.remaining + vec_len l.rest
