use Rattle.std.proofs.Common.{◌≡◌, true}
use Rattle.tx_tfm.specs.Rules.{every, all_pairs_end_after}
use Rattle.tx_tfm.proofs.file.Tfm.all_pairs_end.Given as goal

abbrev pub invariant-loop-k : goal.invariant-loop-k
invariant-loop-k l = every l.k (all_pairs_end_after l.self) ≡ true
