use Rattle.std.proofs.Common.{refl}
use Rattle.tx_cond.proofs.Skipped.{counts}
use Rattle.tx_cond.proofs.laws.skipping_counts_conditionals.Goals as goal

pub returns : goal.returns
returns c = record {
  first = record { skipped = refl; counted = refl };
  next = λ inside taken item h. counts inside taken item h;
}
