use Rattle.std.proofs.Common.{◌≡◌, true}
use Rattle.tx_tfm.specs.Rules.{are_fractions}
use Rattle.tx_tfm.proofs.file.Tfm.are_fractions.Given as goal

abbrev pub invariant-loop-k : goal.invariant-loop-k
invariant-loop-k l = are_fractions l.self l.place l.k ≡ true
