use Rattle.std.proofs.Common.{◌≡◌, ◌+◌, true}
use Rattle.tx_tfm.specs.Rules.{every, successors_end}
use Rattle.tx_tfm.proofs.file.Tfm.all_successors_end.Given as goal

abbrev pub invariant-loop-k : goal.invariant-loop-k
invariant-loop-k l = every l.k (λ j. successors_end l.self 256 (l.self.lengths.first + j)) ≡ true
