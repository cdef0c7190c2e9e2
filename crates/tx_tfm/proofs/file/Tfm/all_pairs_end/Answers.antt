use Rattle.std.proofs.Common.{sym, ◌∙◌, arith}
use Rattle.tx_tfm.specs.Rules.{all_pairs_end}
use Rattle.tx_tfm.proofs.Every.{every-fails}
use Rattle.tx_tfm.proofs.file.Tfm.all_pairs_end.Goals as goal

pub returns-then-not-ends : goal.returns-then-not-ends
unfolding all_pairs_end
returns-then-not-ends c = sym (every-fails (257) c.loop-k.k _ (omega arith) (sym c.in_ok-ends.ensures ∙ c.if-not-ends.true))
