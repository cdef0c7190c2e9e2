use Rattle.std.proofs.Common.{sym, ap, ◌∙◌, ◌+◌, arith}
use Rattle.tx_tfm.specs.Format.{character_count}
use Rattle.tx_tfm.specs.Rules.{all_remainders_fit, remainder_fits}
use Rattle.tx_tfm.proofs.Every.{every-fails}
use Rattle.tx_tfm.proofs.file.Tfm.all_remainders_fit.Goals as goal

pub returns-then-not-remainder_fits : goal.returns-then-not-remainder_fits
unfolding all_remainders_fit
returns-then-not-remainder_fits c = sym (every-fails (character_count c.args.self.now.lengths) c.loop-k.k _ (omega arith) (ap (λ f. remainder_fits c.args.self.now (f + c.loop-k.k)) (sym c.from-first.ensures) ∙ sym c.if-not-remainder_fits.ensures))
