use Rattle.std.proofs.Common.{◌+◌, ◌^◌, sym, subst, arith}
use Rattle.tx_linebreak.specs.Totals.{IsWithin, both}
use Rattle.tx_linebreak.proofs.Summing.{within_both, within_more}
use Rattle.tx_linebreak.proofs.choice.skips.Goals as goal

pub returns-clause-small : goal.returns-clause-small
returns-clause-small c =
    subst (IsWithin (2 ^ 32)) (sym c.plus.ensures)
    (within_more (both c.of_glue.result c.of_glue-2.result) (2 ^ 31 + 2 ^ 31) (2 ^ 32) (omega arith) (within_both c.of_glue.result c.of_glue-2.result (2 ^ 31) (2 ^ 31) c.of_glue.ensures.small c.of_glue-2.ensures.small))
