use Rattle.std.proofs.Common.{◌≡◌, ◌+◌, true}
use Rattle.tx_tfm.specs.Rules.{every, indices_fit}
use Rattle.tx_tfm.proofs.file.Tfm.all_indices_fit.Given as goal

abbrev pub invariant-loop-k : goal.invariant-loop-k
invariant-loop-k l = every l.k (λ j. indices_fit l.self (l.self.lengths.first + j)) ≡ true
