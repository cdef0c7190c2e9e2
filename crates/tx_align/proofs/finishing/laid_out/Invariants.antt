use Rattle.std.proofs.Common.{◌≡◌}
use Rattle.tx_align.specs.Aligned.{laid_from, nothing_laid}
use Rattle.tx_align.proofs.finishing.laid_out.Given as goal

abbrev pub invariant-loop-item : goal.invariant-loop-item
invariant-loop-item l = laid_from l.prototype l.laid l.item-iterator.rest.items ≡ laid_from l.prototype nothing_laid l.fn.rows
