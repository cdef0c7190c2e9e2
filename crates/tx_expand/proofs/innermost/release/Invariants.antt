use Rattle.std.proofs.Common.{◌≡◌, ℕ, List, length}
use Rattle.tx_cond.specs.declared.types.Conditional.{Conditional}
use Rattle.tx_expand.specs.Expanding.{reader}
use Rattle.tx_expand.specs.Turns.{released}
use Rattle.tx_expand.proofs.innermost.release.Given as goal

abbrev pub invariant-loop-token : goal.invariant-loop-token
invariant-loop-token l = (conditionals : List Conditional) (job : List ℕ) → released (reader l.begun l.input conditionals job) ≡ released (reader l.initial.begun l.initial.input conditionals job)

abbrev pub decreases-loop-token : goal.decreases-loop-token
decreases-loop-token l = length l.begun
