use Rattle.std.proofs.Common.{◌+◌, ◌^◌, ◌∙◌, sym, subst, arith}
use Rattle.tx_linebreak.specs.Totals.{IsWithin, both}
use Rattle.tx_linebreak.proofs.Summing.{within_both, within_more}
use Rattle.tx_linebreak.proofs.choice.emergency.Goals as goal

pub returns-clause-value : goal.returns-clause-value
returns-clause-value c = c.plus.ensures ∙ (λ i. both (c.skips.ensures.value i) (c.emergency.ensures.value i))

pub returns-clause-small : goal.returns-clause-small
returns-clause-small c =
    subst (IsWithin (2 ^ 65)) (sym c.plus.ensures)
    (within_more (both c.skips.result c.emergency.result) (2 ^ 32 + 2 ^ 63) (2 ^ 65) (omega arith) (within_both c.skips.result c.emergency.result (2 ^ 32) (2 ^ 63) c.skips.ensures.small c.emergency.ensures.small))
