use Rattle.std.proofs.Common.{◌≡◌, true}
use Rattle.tx_tfm.specs.Rules.{every, pair_ends}
use Rattle.tx_tfm.proofs.file.Tfm.all_pairs_end_after.Given as goal

abbrev pub invariant-loop-k : goal.invariant-loop-k
invariant-loop-k l = every l.k (pair_ends l.self l.left) ≡ true
