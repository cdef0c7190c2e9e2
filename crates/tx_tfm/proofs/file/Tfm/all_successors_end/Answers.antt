use Rattle.std.proofs.Common.{sym, ap, ◌∙◌, ◌+◌, arith}
use Rattle.tx_tfm.specs.Format.{character_count}
use Rattle.tx_tfm.specs.Rules.{all_successors_end, successors_end}
use Rattle.tx_tfm.proofs.Every.{every-fails}
use Rattle.tx_tfm.proofs.file.Tfm.all_successors_end.Goals as goal

pub returns-then-not-successors_end : goal.returns-then-not-successors_end
unfolding all_successors_end
returns-then-not-successors_end c = sym (every-fails (character_count c.args.self.now.lengths) c.loop-k.k _ (omega arith) (ap (λ f. successors_end c.args.self.now 256 (f + c.loop-k.k)) (sym c.from-first.ensures) ∙ sym c.if-not-successors_end.ensures))
