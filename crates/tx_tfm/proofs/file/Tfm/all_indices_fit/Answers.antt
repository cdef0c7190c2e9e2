use Rattle.std.proofs.Common.{sym, ap, ◌∙◌, ◌+◌, arith}
use Rattle.tx_tfm.specs.Format.{character_count}
use Rattle.tx_tfm.specs.Rules.{all_indices_fit, indices_fit}
use Rattle.tx_tfm.proofs.Every.{every-fails}
use Rattle.tx_tfm.proofs.file.Tfm.all_indices_fit.Goals as goal

pub returns-then-not-indices_fit : goal.returns-then-not-indices_fit
unfolding all_indices_fit
returns-then-not-indices_fit c = sym (every-fails (character_count c.args.self.now.lengths) c.loop-k.k _ (omega arith) (ap (λ f. indices_fit c.args.self.now (f + c.loop-k.k)) (sym c.from-first.ensures) ∙ sym c.if-not-indices_fit.ensures))
