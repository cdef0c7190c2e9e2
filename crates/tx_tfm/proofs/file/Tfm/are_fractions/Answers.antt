use Rattle.std.proofs.Common.{sym}
use Rattle.tx_tfm.specs.Rules.{are_fractions}
use Rattle.tx_tfm.proofs.Every.{every-fails}
use Rattle.tx_tfm.proofs.file.Tfm.are_fractions.Goals as goal

pub returns-then-not-is_fraction_at : goal.returns-then-not-is_fraction_at
unfolding are_fractions
returns-then-not-is_fraction_at c = sym (every-fails _ c.loop-k.k _ c.loop-k-test.true (sym c.if-not-is_fraction_at.ensures))
