use Rattle.std.proofs.Common.{◌≡◌, ◌+◌, true}
use Rattle.tx_tfm.specs.Rules.{every, remainder_fits}
use Rattle.tx_tfm.proofs.file.Tfm.all_remainders_fit.Given as goal

abbrev pub invariant-loop-k : goal.invariant-loop-k
invariant-loop-k l = every l.k (λ j. remainder_fits l.self (l.self.lengths.first + j)) ≡ true
